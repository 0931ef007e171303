use Rattle.std.proofs.Common.{List, take, get_or, sym, subst}
use Rattle.std.proofs.lemmas.List.{take_more}
use Rattle.std.proofs.lemmas.Option.{slice_get-get_or}
use Rattle.schedule.specs.declared.event.Event.{Event}
use Rattle.schedule.specs.declared.event.Event.TheVariants.{Draw}
use Rattle.schedule_core.specs.Scene.{point_at, tally_of}
use Rattle.schedule_core.specs.Tally.{HappenInTurn}
use Rattle.schedule_core.proofs.Events.{happen_more, happen_none, not_refused, refused_at}
use Rattle.schedule_core.proofs.world.World.apply_all.Goals as goal

pub loop-place-init : goal.loop-place-init
loop-place-init c = happen_none (point_at c.args.self.now) (tally_of c.args.self.now)

pub returns-in-Err-clause-refused : goal.returns-in-Err-clause-refused
returns-in-Err-clause-refused c =
    let same = c.in-Err.ensures.unchanged in
    refused_at (point_at c.args.self.now) (tally_of c.args.self.now) c.args.events.now c.loop-place.place (get_or c.args.events.now c.loop-place.place (Draw 0)) c.in-Err.fault
    (point_at c.loop-place.self) (point_at c.apply.new.self) (tally_of c.loop-place.self) (tally_of c.apply.new.self)
    (slice_get-get_or c.args.events.now c.loop-place.place (Draw 0) c.loop-place-test.true) c.loop-place.invariant c.in-Err.ensures.refused same.point same.tally

pub loop-place-preserved : goal.loop-place-preserved
loop-place-preserved c =
    let event = get_or c.args.events.now c.loop-place.place (Draw 0) in
    let more = take_more c.args.events.now c.loop-place.place (Draw 0) c.loop-place-test.true in
    subst (λ (events : List Event). HappenInTurn (point_at c.args.self.now) (tally_of c.args.self.now) events (point_at c.apply.new.self) (tally_of c.apply.new.self)) (sym more)
    (happen_more (point_at c.args.self.now) (tally_of c.args.self.now) (take c.loop-place.place c.args.events.now) (point_at c.loop-place.self) (tally_of c.loop-place.self) event (point_at c.apply.new.self) (tally_of c.apply.new.self)
    c.loop-place.invariant (not_refused _ c.in_default.ensures.refused) c.in_default.ensures.happens)
