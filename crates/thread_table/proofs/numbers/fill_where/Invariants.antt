use Rattle.std.proofs.Common.{◌≡◌, take}
use Rattle.thread_table.specs.Threads.{numbers_where}
use Rattle.thread_table.proofs.numbers.fill_where.Given as goal

abbrev pub invariant-loop-number : goal.invariant-loop-number
invariant-loop-number g l = l.numbers.items ≡ numbers_where g.holds (take l.number l.threads)
