use Rattle.std.proofs.Common.{◌∙◌, sym}
use Rattle.timeline.specs.Halts as halts
use Rattle.timeline.proofs.Places.{found, none_left, passed_over}
use Rattle.timeline.proofs.access.place_of.Goals as goal

pub returns-then-is_seen : goal.returns-then-is_seen
returns-then-is_seen c =
    found (halts.is_seen c.args.access.now) c.args.watches.now c.loop-place.place _ c.loop-place-test.true (sym c.is_seen.ensures ∙ c.if-is_seen.true) ∙ c.loop-place.invariant

pub loop-place-preserved : goal.loop-place-preserved
loop-place-preserved c =
    passed_over (halts.is_seen c.args.access.now) c.args.watches.now c.loop-place.place _ c.loop-place-test.true (sym c.is_seen.ensures ∙ c.if-is_seen.false)
    ∙ c.loop-place.invariant

pub returns : goal.returns
returns c = none_left (halts.is_seen c.args.access.now) c.args.watches.now c.loop-place.place c.loop-place-test.false ∙ c.loop-place.invariant
