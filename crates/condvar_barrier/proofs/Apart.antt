-- Threads that wait are apart: how many there can be, one more, and fewer.
use Rattle.std.proofs.Common.{◌≡◌, ℕ, ◌<◌, ◌≤◌, Bool, true, false, cond, ◌||◌, eqb, List, [], ◌∷◌, ◌++◌, length, map, refl, arith, inl, inr, ◌∙◌, length-append}
use Rattle.std.proofs.lemmas.List.{length-map}
use Rattle.std.proofs.lemmas.Bool.{cases_eq}
use Rattle.std.specs.Prelude.{filter, ◌==◌}
use Rattle.std.specs.List.{list_any, IsDistinct, AllByRecursion}
use Rattle.std.proofs.lemmas.Bool.Decides.{nat_tests}
use Rattle.std.proofs.lemmas.Map.Keys.{IsDistinct-cons}
use Rattle.std.proofs.lemmas.Map.Steps.{length-le_from_distinct_below}
use Rattle.std.proofs.lemmas.List.Folds.{list_any-append}
use Rattle.abi.specs.Limits as limit
use Rattle.condvar_barrier.specs.Objects.{is_among}
use Rattle.condvar_barrier.specs.Sound.{AreApart}
use Rattle.condvar_barrier.specs.declared.waiter.Waiter.{Waiter}

pub or-left : (one other : Bool) → (one || other) ≡ false → one ≡ false
or-left false other h = refl
or-left true other h = h

pub or-right : (one other : Bool) → (one || other) ≡ false → other ≡ false
or-right false other h = h
or-right true other h = absurd (cc)

pub other_way : (one other : ℕ) → (one == other) ≡ false → (other == one) ≡ false
other_way one other h = grind (arith, nat_tests)

is_among-filter : (test : Waiter → Bool) (thread : ℕ) (waiters : List Waiter) → is_among thread waiters ≡ false → is_among thread (filter test waiters) ≡ false
is_among-filter test thread [] h = refl
is_among-filter test thread (waiter ∷ waiters) h =
    let rest : is_among thread (filter test waiters) ≡ false = is_among-filter test thread waiters (or-right (waiter.thread == thread) (is_among thread waiters) h) in
    elim (test waiter) as (λ passes. is_among thread (cond passes (waiter ∷ filter test waiters) (filter test waiters)) ≡ false) [
      | true ↦ rw (or-left (waiter.thread == thread) (is_among thread waiters) h) rest
      | false ↦ rest
    ]

-- fewer of them are apart
pub AreApart-filter : (test : Waiter → Bool) (waiters : List Waiter) → AreApart waiters → AreApart (filter test waiters)
unfolding AreApart
AreApart-filter test [] apart = tt
AreApart-filter test (waiter ∷ waiters) apart =
    let rest : AreApart (filter test waiters) = AreApart-filter test waiters apart.2 in
    elim (test waiter) as (λ passes. AreApart (cond passes (waiter ∷ filter test waiters) (filter test waiters))) [
      | true ↦ (apart.0, is_among-filter test waiter.thread waiters apart.1, rest)
      | false ↦ rest
    ]

-- so are they with one more that isn't among them
pub AreApart-push : (waiters : List Waiter) (last : Waiter) → AreApart waiters → last.thread < limit.threads → is_among last.thread waiters ≡ false → AreApart (waiters ++ last ∷ [])
unfolding AreApart
AreApart-push [] last apart number h = (number, refl, tt)
AreApart-push (waiter ∷ waiters) last apart number h = (
  apart.0,
  (let other : (last.thread == waiter.thread) ≡ false = other_way waiter.thread last.thread (or-left (waiter.thread == last.thread) (is_among last.thread waiters) h) in
      list_any-append (λ one. one.thread == waiter.thread) waiters (last ∷ []) ∙ rw (apart.1, other) refl),
  AreApart-push waiters last apart.2 number (or-right (waiter.thread == last.thread) (is_among last.thread waiters) h),
)

apart_from : (thread : ℕ) (waiters : List Waiter) → is_among thread waiters ≡ false → AllByRecursion (λ other. eqb thread other ≡ false) (map (λ waiter. waiter.thread) waiters)
apart_from thread [] h = tt
apart_from thread (waiter ∷ waiters) h = (
  other_way waiter.thread thread (or-left (waiter.thread == thread) (is_among thread waiters) h),
  apart_from thread waiters (or-right (waiter.thread == thread) (is_among thread waiters) h),
)

distinct_threads : (waiters : List Waiter) → AreApart waiters → IsDistinct eqb (map (λ waiter. waiter.thread) waiters)
unfolding AreApart IsDistinct
distinct_threads [] apart = tt
distinct_threads (waiter ∷ waiters) apart =
    IsDistinct-cons eqb waiter.thread (map (λ waiter. waiter.thread) waiters) (apart_from waiter.thread waiters apart.1) (distinct_threads waiters apart.2)

small_threads : (waiters : List Waiter) → AreApart waiters → (thread : ℕ) → list_any (eqb thread) (map (λ waiter. waiter.thread) waiters) ≡ true → thread < limit.threads
unfolding AreApart
small_threads [] apart thread h = absurd (cc)
small_threads (waiter ∷ waiters) apart thread h =
    elim (cases_eq thread waiter.thread) [
      | inl same ↦ rw same apart.0
      | inr other ↦ (let differs : eqb thread waiter.thread ≡ false = grind (arith, nat_tests) in small_threads waiters apart.2 thread (rw differs at h))
    ]

-- there is room for one that isn't among them
pub length-AreApart : (waiters : List Waiter) → AreApart waiters → length waiters ≤ limit.threads
length-AreApart waiters apart =
    let most : length (map (λ (waiter : Waiter). waiter.thread) waiters) ≤ limit.threads =
    length-le_from_distinct_below (map (λ waiter. waiter.thread) waiters) limit.threads (distinct_threads waiters apart) (small_threads waiters apart) in
    rw length-map at most

pub room : (waiters : List Waiter) (last : Waiter) → AreApart waiters → last.thread < limit.threads → is_among last.thread waiters ≡ false → length waiters < limit.threads
room waiters last apart number h =
    let most : length (waiters ++ last ∷ []) ≤ limit.threads = length-AreApart (waiters ++ last ∷ []) (AreApart-push waiters last apart number h) in
    omega (arith, length-append waiters (last ∷ []))
