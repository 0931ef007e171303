use Rattle.std.proofs.Common.{◌≡◌, drop}
use Rattle.timeline.specs.Calls.{is_event, joint_in}
use Rattle.timeline.specs.Halts.{first_from, first_place}
use Rattle.timeline.proofs.present.Present.call_event.Given as goal

abbrev pub invariant-loop-place : goal.invariant-loop-place
invariant-loop-place l = first_from (is_event l.read (joint_in l.self l.underway)) l.place (drop l.place l.watches) ≡ first_place (is_event l.read (joint_in l.self l.underway)) l.watches
