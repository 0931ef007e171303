use Rattle.std.proofs.Common.{◌≡◌, ℕ, Some, arith, ⊎_elim, inl, inr}
use Rattle.std.specs.Ordering.{nat_cmp}
use Rattle.std.specs.BTreeMap.{BTreeMap, get}
use Rattle.std.proofs.lemmas.Result.{on_ok_weaker}
use Rattle.races.specs.Clocks.{time, time_in}
use Rattle.races.specs.declared.clock.Clock.{Clock}
use Rattle.races.proofs.Clocked.{IsKeyJoined, put_joined}
use Rattle.races.proofs.clocks.join_in.Goals as goal

-- from the times before an empty clock was added
from_before : (old part new : BTreeMap ℕ Clock) (key : ℕ) (past : ℕ → ℕ) → ((other thread : ℕ) → time_in part other thread ≡ time_in old other thread) → IsKeyJoined part new key past → IsKeyJoined old new key past
from_before old part new key past same joined other thread index =
    let s = same other thread in (
      λ small. ⊎_elim (λ before. inl (omega arith)) (λ now. inr now) ((joined other thread index).0 small),
      λ either. (joined other thread index).1 (⊎_elim (λ before. inl (omega arith)) (λ now. inr now) either),
    )

pub returns-in-Some : goal.returns-in-Some
returns-in-Some c =
    let found : Some c.in-Some.clock.now ≡ get nat_cmp c.add_key.new.clocks c.args.key = rw c.in-Some.is at c.get_mut.ensures.value in
    on_ok_weaker c.join.result
    (λ joined. from_before c.args.clocks.now c.add_key.new.clocks (c.get_mut.follows.lender c.join.new.self) c.args.key (time c.args.past.now) c.in_ok-add_key.ensures.same
    (put_joined c.add_key.new.clocks (c.get_mut.follows.lender c.join.new.self) c.args.key c.join.new.self
    (λ other. ((c.get_mut.follows.holds c.join.new.self).3 c.in_ok-add_key.ensures.has).0 other)
    c.in-Some.clock.now (time c.args.past.now) found joined))
    c.join.ensures
