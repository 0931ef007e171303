use Rattle.std.proofs.Common.{◌∙◌, sym, ap}
use Rattle.std.specs.Prelude.{option_map}
use Rattle.timeline.specs.Calls.{is_event, joint_in}
use Rattle.timeline.specs.declared.halt.Halt.TheVariants.{Watched}
use Rattle.timeline.proofs.Places.{found, none_left, passed_over}
use Rattle.timeline.proofs.present.Present.call_event.Goals as goal

pub returns-then-is_event : goal.returns-then-is_event
returns-then-is_event c =
    ap (option_map Watched)
    (found (is_event c.args.read.now (joint_in c.args.self.now c.args.underway.now)) c.args.watches.now c.loop-place.place _ c.loop-place-test.true
    (sym c.is_event.ensures ∙ c.if-is_event.true) ∙ c.loop-place.invariant)

pub loop-place-preserved : goal.loop-place-preserved
loop-place-preserved c =
    passed_over (is_event c.args.read.now (joint_in c.args.self.now c.args.underway.now)) c.args.watches.now c.loop-place.place _ c.loop-place-test.true
    (sym c.is_event.ensures ∙ c.if-is_event.false) ∙ c.loop-place.invariant

pub returns : goal.returns
returns c =
    ap (option_map Watched)
    (none_left (is_event c.args.read.now (joint_in c.args.self.now c.args.underway.now)) c.args.watches.now c.loop-place.place c.loop-place-test.false ∙ c.loop-place.invariant)
