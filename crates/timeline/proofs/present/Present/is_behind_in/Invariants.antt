use Rattle.std.proofs.Common.{◌≡◌, ◌+◌, false}
use Rattle.timeline.specs.Calls.{any_below, is_behind, holds_at, joint_in}
use Rattle.timeline.proofs.present.Present.is_behind_in.Given as goal

abbrev pub invariant-loop-offset : goal.invariant-loop-offset
invariant-loop-offset l = any_below (λ offset. holds_at (is_behind (joint_in l.self l.underway)) (l.watch.start + offset)) l.offset ≡ false
