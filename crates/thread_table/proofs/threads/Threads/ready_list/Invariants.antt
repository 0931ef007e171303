use Rattle.thread_table.specs.Status.{is_ready}
use Rattle.thread_table.proofs.threads.Threads.ready_list.Given as goal

abbrev pub ghost-fill_where : goal.ghost-fill_where
ghost-fill_where a = λ thread. is_ready thread.status
