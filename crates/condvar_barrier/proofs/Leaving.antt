-- The threads of a queue, or of a barrier, wait no more: those that stay are just those that wait elsewhere.
use Rattle.std.proofs.Common.{◌≡◌, ℕ, Bool, true, false, cond, not, Option, Some, None, List, [], ◌∷◌, map, refl, ◌∙◌, ap, arith}
use Rattle.std.specs.Prelude.{filter, ◌==◌, is_none, if◌then◌else◌}
use Rattle.std.specs.List.{list_any, filter_map, cons_option, AllByRecursion}
use Rattle.std.proofs.lemmas.Bool.Decides.{nat_tests}
use Rattle.condvar_barrier.specs.Objects.{is_among}
use Rattle.condvar_barrier.specs.Sound.{AreApart}
use Rattle.condvar_barrier.specs.Objects.{queued_at, arrived_at}
use Rattle.condvar_barrier.specs.declared.wait_place.WaitPlace.{WaitPlace}
use Rattle.condvar_barrier.specs.declared.wait_place.WaitPlace.TheVariants.{Condition, Barrier}
use Rattle.condvar_barrier.specs.declared.waiter.Waiter.{Waiter}
use Rattle.condvar_barrier.specs.declared.woken.Woken.{Woken}
use Rattle.condvar_barrier.proofs.Apart.{or-left, or-right, other_way}

equal : (number : ℕ) → (number == number) ≡ true
equal number = grind (arith, nat_tests)

filter-alike : (one other : Waiter → Bool) (waiters : List Waiter) → AllByRecursion (λ waiter. one waiter ≡ other waiter) waiters → filter one waiters ≡ filter other waiters
filter-alike one other [] h = refl
filter-alike one other (waiter ∷ waiters) h =
    let rest : filter one waiters ≡ filter other waiters = filter-alike one other waiters h.1 in
    λ i. cond (h.0 i) (waiter ∷ rest i) (rest i)

-- waiters are found by what they wait at, each as something that has its thread
module _ {Y : Type 0} (found : Waiter → Option Y) (thread_of : Y → ℕ) (same : (waiter : Waiter) (y : Y) → found waiter ≡ Some y → thread_of y ≡ waiter.thread) where
  -- whether a thread is among those found
  abbrev pub is_found : ℕ → List Waiter → Bool
  is_found thread waiters = list_any (λ one. one == thread) (map thread_of (filter_map found waiters))

  is_found-none : (thread : ℕ) (waiters : List Waiter) → is_among thread waiters ≡ false → is_found thread waiters ≡ false
  is_found-none thread [] h = refl
  is_found-none thread (waiter ∷ waiters) h = one (found waiter) refl (is_found-none thread waiters (or-right (waiter.thread == thread) (is_among thread waiters) h))
    where
      one : (what : Option Y) → found waiter ≡ what → is_found thread waiters ≡ false → list_any (λ one. one == thread) (map thread_of (cons_option what (filter_map found waiters))) ≡ false
      one None e rest = rest
      one (Some y) e rest = rw (same waiter y e, or-left (waiter.thread == thread) (is_among thread waiters) h) rest

  -- the first waiter is found just where it has a place there
  is_found-first : (waiter : Waiter) (waiters : List Waiter) → is_among waiter.thread waiters ≡ false → is_none (found waiter) ≡ not (is_found waiter.thread (waiter ∷ waiters))
  is_found-first waiter waiters apart = one (found waiter) refl
    where
      one : (what : Option Y) → found waiter ≡ what → is_none what ≡ not (list_any (λ one. one == waiter.thread) (map thread_of (cons_option what (filter_map found waiters))))
      one None e = rw (is_found-none waiter.thread waiters apart) refl
      one (Some y) e = rw (same waiter y e, equal waiter.thread) refl

  -- another thread is found after it just where it is found
  is_found-other : (thread : ℕ) (waiter : Waiter) (waiters : List Waiter) → (thread == waiter.thread) ≡ false → is_found thread waiters ≡ is_found thread (waiter ∷ waiters)
  is_found-other thread waiter waiters differs = one (found waiter) refl
    where
      one : (what : Option Y) → found waiter ≡ what → is_found thread waiters ≡ list_any (λ one. one == thread) (map thread_of (cons_option what (filter_map found waiters)))
      one None e = refl
      one (Some y) e = rw (same waiter y e, other_way thread waiter.thread differs) refl

  is_found-rest : (waiter : Waiter) (waiters rest : List Waiter) → is_among waiter.thread rest ≡ false
      → AllByRecursion (λ one. is_none (found one) ≡ not (is_found one.thread waiters)) rest
      → AllByRecursion (λ one. is_none (found one) ≡ not (is_found one.thread (waiter ∷ waiters))) rest
  is_found-rest waiter waiters [] apart h = tt
  is_found-rest waiter waiters (one ∷ rest) apart h = (
    h.0 ∙ ap not (is_found-other one.thread waiter waiters (or-left (one.thread == waiter.thread) (is_among waiter.thread rest) apart)),
    is_found-rest waiter waiters rest (or-right (one.thread == waiter.thread) (is_among waiter.thread rest) apart) h.1,
  )

  is_found-all : (waiters : List Waiter) → AreApart waiters → AllByRecursion (λ one. is_none (found one) ≡ not (is_found one.thread waiters)) waiters
  unfolding AreApart
  is_found-all [] apart = tt
  is_found-all (waiter ∷ waiters) apart = (
    is_found-first waiter waiters apart.1,
    is_found-rest waiter waiters waiters apart.1 (is_found-all waiters apart.2),
  )

  pub filter-found : (waiters : List Waiter) → AreApart waiters
      → filter (λ waiter. is_none (found waiter)) waiters ≡ filter (λ waiter. not (is_found waiter.thread waiters)) waiters
  filter-found waiters apart =
      filter-alike (λ waiter. is_none (found waiter)) (λ waiter. not (is_found waiter.thread waiters)) waiters (is_found-all waiters apart)

-- what is found in a queue, or at a barrier, has the waiter's thread
pub queued_thread : (condition : ℕ) (waiter : Waiter) (woken : Woken) → queued_at condition waiter.thread waiter.place ≡ Some woken → woken.thread ≡ waiter.thread
queued_thread condition waiter woken is = by_place waiter.place is
  where
    by_test : (test : Bool) (mutex : ℕ) → (if test then Some (record { thread = waiter.thread; mutex = mutex }) else None) ≡ Some woken → woken.thread ≡ waiter.thread
    by_test true mutex h = cc
    by_test false mutex h = absurd (cc)

    by_place : (place : WaitPlace) → queued_at condition waiter.thread place ≡ Some woken → woken.thread ≡ waiter.thread
    by_place (Condition number mutex) h = by_test (number == condition) mutex h
    by_place (Barrier number count) h = absurd (cc)

pub arrived_thread : (barrier : ℕ) (waiter : Waiter) (thread : ℕ) → arrived_at barrier waiter.thread waiter.place ≡ Some thread → thread ≡ waiter.thread
arrived_thread barrier waiter thread is = by_place waiter.place is
  where
    by_test : (test : Bool) → (if test then Some waiter.thread else None) ≡ Some thread → thread ≡ waiter.thread
    by_test true h = cc
    by_test false h = absurd (cc)

    by_place : (place : WaitPlace) → arrived_at barrier waiter.thread place ≡ Some thread → thread ≡ waiter.thread
    by_place (Condition number mutex) h = absurd (cc)
    by_place (Barrier number count) h = by_test (number == barrier) h
