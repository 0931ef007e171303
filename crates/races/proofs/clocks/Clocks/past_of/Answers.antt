use Rattle.std.proofs.Common.{◌≡◌, ◌<◌, List, take, get_or, sym, subst, arith, length}
use Rattle.std.proofs.lemmas.List.{take_more, take_all}
use Rattle.races.specs.Clocks.{time, time_at}
use Rattle.races.specs.declared.clock_owner.ClockOwner.{ClockOwner}
use Rattle.races.specs.declared.clock_owner.ClockOwner.TheVariants.{Thread}
use Rattle.races.proofs.Clocked.{IsPastOf, past_more}
use Rattle.races.proofs.clocks.Clocks.past_of.Goals as goal

pub loop-place-preserved : goal.loop-place-preserved
loop-place-preserved c =
    let place : ClockOwner = get_or c.args.acquired.now c.loop-place.place-index (Thread 0) in
    let inside : c.loop-place.place-index < length c.args.acquired.now = c.loop-place-test.true in
    subst (λ (places : List ClockOwner). IsPastOf (time_at c.args.self.now c.args.step) places (time c.add.new.past)) (sym (take_more c.args.acquired.now c.loop-place.place-index (Thread 0) inside))
    (past_more (time_at c.args.self.now c.args.step) (take c.loop-place.place-index c.args.acquired.now) place (time c.loop-place.past) (time c.add.new.past) c.loop-place.invariant c.in_ok-add.ensures)

pub returns : goal.returns
returns c =
    let all : take c.loop-place.place-index c.args.acquired.now ≡ c.args.acquired.now = take_all c.loop-place.place-index c.args.acquired.now (omega arith) in
    subst (λ (places : List ClockOwner). IsPastOf (time_at c.args.self.now c.args.step) places (time c.loop-place.past)) all c.loop-place.invariant
