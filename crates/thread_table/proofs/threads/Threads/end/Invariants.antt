use Rattle.thread_table.specs.Thread.{is_joiner_of}
use Rattle.thread_table.proofs.threads.Threads.end.Given as goal

abbrev pub ghost-fill_where : goal.ghost-fill_where
ghost-fill_where a = is_joiner_of a.test.0.now
