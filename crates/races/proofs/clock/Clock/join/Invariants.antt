use Rattle.races.specs.Clocks.{time}
use Rattle.races.proofs.Times.{IsPartJoined}
use Rattle.races.proofs.clock.Clock.join.Given as goal

abbrev pub invariant-loop-thread : goal.invariant-loop-thread
invariant-loop-thread l = IsPartJoined (time l.initial.self) (time l.self) l.to-items l.thread
