use Rattle.shuffled_phases.specs.Lists.{is_its_time}
use Rattle.shuffled_phases.proofs.Kept.{Keeps}
use Rattle.shuffled_phases.proofs.part.paced.Given as goal

abbrev pub invariant-loop-thread : goal.invariant-loop-thread
invariant-loop-thread l = Keeps (is_its_time l.number l.phase) l.list l.part.items l.thread-index
