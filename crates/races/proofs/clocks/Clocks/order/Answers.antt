use Rattle.std.proofs.Common.{◌≡◌, ◌<◌, List, take, get_or, sym, subst, arith, length}
use Rattle.std.proofs.lemmas.List.{take_more, take_all}
use Rattle.races.specs.Clocks.{time, time_at, time_kept}
use Rattle.races.specs.declared.clock_owner.ClockOwner.{ClockOwner}
use Rattle.races.specs.declared.clock_owner.ClockOwner.TheVariants.{Thread}
use Rattle.races.proofs.Clocked.{ArePlacesJoined, joined_more, ordered}
use Rattle.races.proofs.clocks.Clocks.order.Goals as goal

pub loop-place-preserved : goal.loop-place-preserved
loop-place-preserved c =
    let place : ClockOwner = get_or c.args.released.now c.loop-place.place-index (Thread 0) in
    let inside : c.loop-place.place-index < length c.args.released.now = c.loop-place-test.true in
    subst (λ (places : List ClockOwner). ArePlacesJoined (time_kept c.args.self.now) (time_kept c.join.new.self) places (time c.in_ok-past.past)) (sym (take_more c.args.released.now c.loop-place.place-index (Thread 0) inside))
    (joined_more (time_kept c.args.self.now) (time_kept c.loop-place.self) (time_kept c.join.new.self) (take c.loop-place.place-index c.args.released.now) place (time c.in_ok-past.past) c.loop-place.invariant c.in_ok-join.ensures)

pub returns : goal.returns
returns c =
    let all : take c.loop-place.place-index c.args.released.now ≡ c.args.released.now = take_all c.loop-place.place-index c.args.released.now (omega arith) in
    ordered (time_kept c.args.self.now) (time_kept c.loop-place.self) (time_at c.args.self.now c.args.step) c.args.acquired.now c.args.released.now (time c.in_ok-past.past) c.in_ok-past.ensures
    (subst (λ (places : List ClockOwner). ArePlacesJoined (time_kept c.args.self.now) (time_kept c.loop-place.self) places (time c.in_ok-past.past)) all c.loop-place.invariant)
