use Rattle.std.specs.Prelude.{vec_len}
use Rattle.timeline.specs.Checkpoints.{StaySound}
use Rattle.timeline.proofs.checkpoints.Checkpoints.forget_near.Given as goal

abbrev pub invariant-loop-last : goal.invariant-loop-last
invariant-loop-last l = StaySound l.fn.self l.self

abbrev pub decreases-loop-last : goal.decreases-loop-last
decreases-loop-last l = vec_len l.self.near
