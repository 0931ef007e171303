-- How a run walks over the positions of a turn.
use Rattle.std.proofs.Common.{◌≡◌, ◌∙◌, ℕ, ◌+◌, ◌-◌, ◌<◌, ◌≤◌, Option, Some, None, Result, Ok, Err, refl, sym, ap, arith, inl, inr}
use Rattle.std.specs.Result.{IfOk}
use Rattle.std.proofs.lemmas.Bool.{cases_order}
use Rattle.token.specs.Point.{Point}
use Rattle.timeline.specs.Halting.{ArePlain, IsPlain, IsPlainWalk, IsNoHalt, IsWalked, NoneBetween, NoneHalts, address_at, halts_at, step_halt, threads_at}
use Rattle.timeline.specs.Calls.{call_at}
use Rattle.timeline.specs.Halts.{Wanted, first_of}
use Rattle.timeline.specs.Moment.{Moment, moment_at}
use Rattle.timeline.specs.Present.{BeginsAt, moment_of, point_at, step_of, steps_of}
use Rattle.timeline.specs.Shown.{own_at}
use Rattle.timeline.specs.declared.halt.Halt.{Halt}
use Rattle.timeline.specs.declared.present.Present.{Present}
use Rattle.timeline.proofs.Passing.{first_none, first_some}

no_halt : (wanted : Wanted) (point : Point) (steps : ℕ) → IsPlain wanted point steps → threads_at wanted point ≡ None → halts_at wanted (record { point = point; steps = steps }) ≡ None
unfolding halts_at
no_halt wanted point steps plain threads = rw (plain.address, threads, plain.call, plain.event, plain.end) refl

none_here : (wanted : Wanted) (point : Point) (steps : ℕ) → IsPlain wanted point steps → threads_at wanted point ≡ None → IsNoHalt wanted point steps
none_here wanted point steps plain threads = record { within = plain.within; none = no_halt wanted point steps plain threads }

same_moment : (one other : Present) → point_at one ≡ point_at other → steps_of one.underway ≡ steps_of other.underway → moment_of one ≡ moment_of other
same_moment one other point steps = λ i. record { point = point i; steps = steps i }

-- It halts where it stands.
pub halts_here : (wanted : Wanted) (old begun : Present) (halt : Halt) → point_at begun ≡ point_at old → steps_of begun.underway ≡ steps_of old.underway → step_of begun ≡ step_of old
    → first_of (address_at wanted (own_at (moment_of begun))) (threads_at wanted (point_at begun)) ≡ Some halt → IsWalked wanted old (Some halt) begun
unfolding halts_at
halts_here wanted old begun halt point steps step told = (
  (λ k low high. absurd (omega (arith, step, low, high))),
  first_some (address_at wanted (own_at (moment_of begun))) (threads_at wanted (point_at begun)) (step_halt wanted (moment_of begun)) halt told,
)

-- It halts at a call.
pub calls_here : (wanted : Wanted) (old begun : Present) (halt : Halt) → step_of begun ≡ step_of old
    → first_of (address_at wanted (own_at (moment_of begun))) (threads_at wanted (point_at begun)) ≡ None → call_at wanted.watches (moment_of begun) ≡ Some halt → IsWalked wanted old (Some halt) begun
unfolding halts_at
calls_here wanted old begun halt step none call =
    let both = first_none (address_at wanted (own_at (moment_of begun))) (threads_at wanted (point_at begun)) none in
    ((λ k low high. absurd (omega (arith, step, low, high))), rw (both.0, both.1, call) refl)

-- It goes on from where it doesn't halt.
pub walks : (wanted : Wanted) (old begun new : Present) (halt : Option Halt) → point_at begun ≡ point_at old → steps_of begun.underway ≡ steps_of old.underway → step_of begun ≡ step_of old
    → first_of (address_at wanted (own_at (moment_of begun))) (threads_at wanted (point_at begun)) ≡ None → IsPlainWalk wanted begun halt new → IsWalked wanted old halt new
unfolding halts_at
walks wanted old begun new None point steps step none walk =
    let threads = (first_none (address_at wanted (own_at (moment_of begun))) (threads_at wanted (point_at begun)) none).1 in
    λ k low high. rw (sym point) (none_here wanted (point_at begun) k (walk k (omega (arith, low, steps)) (omega (arith, high, steps, step))) threads)
walks wanted old begun new (Some halt) point steps step none walk =
    let threads = (first_none (address_at wanted (own_at (moment_of begun))) (threads_at wanted (point_at begun)) none).1 in
    let threads_new : threads_at wanted (point_at new) ≡ None = ap (threads_at wanted) walk.1 ∙ threads in (
      (λ k low high. rw (sym point) (none_here wanted (point_at begun) k (walk.0 k (omega (arith, low, steps)) (omega (arith, high, steps, step))) threads)),
      rw threads_new walk.2,
    )

pub all_walk : {E : Type 0} (wanted : Wanted) (old begun new : Present) (result : Result (Option Halt) E) → point_at begun ≡ point_at old → steps_of begun.underway ≡ steps_of old.underway
    → step_of begun ≡ step_of old → first_of (address_at wanted (own_at (moment_of begun))) (threads_at wanted (point_at begun)) ≡ None
    → IfOk result (λ halt. IsPlainWalk wanted begun halt new) → IfOk result (λ halt. IsWalked wanted old halt new)
all_walk wanted old begun new (Err error) point steps step none walk = walk
all_walk wanted old begun new (Ok halt) point steps step none walk = walks wanted old begun new halt point steps step none walk

-- the positions that were passed, by the steps that were made
pub stays : (wanted : Wanted) (old new : Present) → new.before ≡ old.before → ArePlain wanted (point_at old) (steps_of old.underway) (steps_of new.underway)
    → ArePlain wanted (point_at old) (steps_of old.underway) (steps_of old.underway + (step_of new - step_of old))
stays wanted old new before plain = λ k low high. plain k low (omega (arith, low, high, before))

pub turns : (wanted : Wanted) (old new : Present) (count : ℕ) → new.underway ≡ None → new.before ≡ old.before + count → ArePlain wanted (point_at old) (steps_of old.underway) count
    → ArePlain wanted (point_at old) (steps_of old.underway) (steps_of old.underway + (step_of new - step_of old))
turns wanted old new count none before plain =
    let steps : steps_of new.underway ≡ 0 = ap steps_of none in
    λ k low high. plain k low (omega (arith, low, high, before, steps))

-- the positions of a turn that were passed follow those that were passed before
pub passed_more : (wanted : Wanted) (start : Point) (old new : Present) (from : ℕ) → BeginsAt start old → NoneHalts wanted (point_at old) (steps_of old.underway) (steps_of old.underway + (step_of new - step_of old))
    → NoneBetween wanted start from (step_of old) → NoneBetween wanted start from (step_of new)
passed_more wanted start old new from begins none before = λ n low high.
    elim (cases_order n (step_of old)) [
      | inl same ↦ later n low high (omega (arith, same))
      | inr (inl below) ↦ before n low below
      | inr (inr above) ↦ later n low high (omega (arith, above))
    ]
  where
    later : (n : ℕ) → from ≤ n → n < step_of new → step_of old ≤ n → (moment : Moment) × (moment_at start n ≡ Some moment) × (halts_at wanted moment ≡ None)
    later n low high past =
        let k : ℕ = n - old.before in
        let there = none k (omega (arith, past)) (omega (arith, past, high)) in
        let same : n ≡ old.before + k = omega (arith, past) in
        (record { point = point_at old; steps = k }, ap (moment_at start) same ∙ there.within start old.before begins, there.none)

pub passed_by_walk : (wanted : Wanted) (start : Point) (old new : Present) (halt : Option Halt) (from : ℕ) → BeginsAt start old → IsWalked wanted old halt new
    → NoneBetween wanted start from (step_of old) → NoneBetween wanted start from (step_of new)
passed_by_walk wanted start old new None from begins walked before = passed_more wanted start old new from begins walked before
passed_by_walk wanted start old new (Some halt) from begins walked before = passed_more wanted start old new from begins walked.0 before
