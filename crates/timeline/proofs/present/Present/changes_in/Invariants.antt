use Rattle.std.proofs.Common.{◌≡◌, ◌+◌, false}
use Rattle.timeline.specs.Calls.{any_below, has_changed, holds_at, joint_in}
use Rattle.timeline.proofs.present.Present.changes_in.Given as goal

abbrev pub invariant-loop-offset : goal.invariant-loop-offset
invariant-loop-offset l = any_below (λ offset. holds_at (has_changed (joint_in l.self l.underway)) (l.watch.start + offset)) l.offset ≡ false
