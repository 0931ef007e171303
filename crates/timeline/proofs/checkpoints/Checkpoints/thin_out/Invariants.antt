use Rattle.std.proofs.Common.{◌-◌}
use Rattle.std.specs.Prelude.{vec_len}
use Rattle.timeline.specs.Checkpoints.{StaySound}
use Rattle.timeline.proofs.checkpoints.Checkpoints.thin_out.Given as goal

abbrev pub invariant-loop-place : goal.invariant-loop-place
invariant-loop-place l = StaySound l.fn.self l.self

abbrev pub decreases-loop-place : goal.decreases-loop-place
decreases-loop-place l = vec_len l.self.kept - l.place
