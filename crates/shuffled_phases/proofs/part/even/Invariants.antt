use Rattle.shuffled_phases.specs.Lists.{is_even}
use Rattle.shuffled_phases.proofs.Kept.{Keeps}
use Rattle.shuffled_phases.proofs.part.even.Given as goal

abbrev pub invariant-loop-thread : goal.invariant-loop-thread
invariant-loop-thread l = Keeps (is_even l.number l.phase) l.list l.part.items l.thread-index
