use Rattle.thread_table.specs.Status.{has_turn}
use Rattle.thread_table.proofs.threads.Threads.fill_serial_list.Given as goal

abbrev pub ghost-fill_where : goal.ghost-fill_where
ghost-fill_where a = λ thread. has_turn thread.status
