use Rattle.std.proofs.Common.{◌≡◌, Option, Some, subst}
use Rattle.std.specs.Ordering.{nat_cmp}
use Rattle.std.specs.BTreeMap.{get}
use Rattle.std.proofs.lemmas.Result.{on_ok_weaker}
use Rattle.races.specs.Clocks.{time, time_by, IsJoined}
use Rattle.races.specs.declared.clock.Clock.{Clock}
use Rattle.races.proofs.clocks.add_in.Goals as goal

pub returns-in-Some : goal.returns-in-Some
returns-in-Some c =
    let found : Some c.in-Some.clock.now ≡ get nat_cmp c.args.clocks.now c.args.key = rw c.in-Some.is at c.get.ensures.value in
    on_ok_weaker c.join.result (λ joined. subst (λ (one : Option Clock). IsJoined (time c.args.past.now) (time c.join.new.self) (time_by one)) found joined) c.join.ensures
