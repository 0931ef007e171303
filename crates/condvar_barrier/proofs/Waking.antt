-- The rows of signal, broadcast and barrier, where they let waiters go: what is left of the waiters.
use Rattle.std.proofs.Common.{◌≡◌, ℕ, ◌+◌, ◌<◌, ◌≤◌, true, false, not, ◌||◌, Some, List, [], ◌∷◌, length, take, refl, sym, ◌∙◌, ap, arith}
use Rattle.std.specs.Prelude.{filter, ◌==◌, nat_le, nat_lt, is_none}
use Rattle.std.proofs.lemmas.Bool.Decides.{nat_tests}
use Rattle.std.proofs.lemmas.List.{map-id}
use Rattle.std.proofs.lemmas.List.Elements.{filter_agree}
use Rattle.abi.specs.declared.code.Code.TheVariants.{Done}
use Rattle.abi.specs.Limits as limit
use Rattle.abi.specs.declared.reply.Reply.TheVariants.{Completed}
use Rattle.condvar_barrier.specs.Objects.{ObjectState, queue, queued_at, arrivals, arrived_at, counts_differ, holds, without}
use Rattle.condvar_barrier.specs.Rows.{woke, let_pass, signal, broadcast, barrier}
use Rattle.condvar_barrier.specs.Sound.{AreApart}
use Rattle.condvar_barrier.specs.declared.waiter.Waiter.{Waiter}
use Rattle.condvar_barrier.specs.declared.woken.Woken.{Woken}
use Rattle.condvar_barrier.proofs.Leaving.{filter-found, queued_thread, arrived_thread}

filter-always : (waiters : List Waiter) → filter (λ waiter. true) waiters ≡ waiters
filter-always [] = refl
filter-always (waiter ∷ waiters) = ap (λ (rest : List Waiter). waiter ∷ rest) (filter-always waiters)

other_thread : (one other : ℕ) → not (one == other) ≡ not ((other == one) || false)
other_thread one other = grind (arith, nat_tests)

module _ (objects : ObjectState) (condition : ℕ) (within : condition < limit.objects) where
  in_range : nat_le limit.objects condition ≡ false
  in_range = grind (arith, nat_tests)

  -- nobody waits there
  pub signal-nobody : [] ≡ take 1 (queue objects condition) → woke (Completed Done (Some 0)) [] objects ≡ signal objects condition
  unfolding signal without
  signal-nobody nobody = rw (in_range, ← nobody) (ap (λ waiters. woke (Completed Done (Some 0)) [] (record objects { waiters = waiters })) (sym (filter-always objects.waiters)))

  -- one waits there
  pub signal-first : (woken : Woken) (rest : List Waiter) → woken ∷ [] ≡ take 1 (queue objects condition) → rest ≡ filter (λ waiter. not (waiter.thread == woken.thread)) objects.waiters
      → woke (Completed Done (Some 1)) (woken ∷ []) (record objects { waiters = rest }) ≡ signal objects condition
  unfolding signal without
  signal-first woken rest first left =
      rw (in_range, ← first)
      (ap (λ waiters. woke (Completed Done (Some 1)) (woken ∷ []) (record objects { waiters = waiters }))
      (left ∙ filter_agree (λ (waiter : Waiter). not (waiter.thread == woken.thread)) (λ (waiter : Waiter). not ((woken.thread == waiter.thread) || false))
      (λ (waiter : Waiter). other_thread waiter.thread woken.thread) objects.waiters))

  pub broadcast-all : (rest : List Waiter) → AreApart objects.waiters → rest ≡ filter (λ waiter. is_none (queued_at condition waiter.thread waiter.place)) objects.waiters
      → woke (Completed Done (Some (length (queue objects condition)))) (queue objects condition) (record objects { waiters = rest }) ≡ broadcast objects condition
  unfolding broadcast without queue
  broadcast-all rest apart left =
      rw in_range
      (ap (λ waiters. woke (Completed Done (Some (length (queue objects condition)))) (queue objects condition) (record objects { waiters = waiters }))
      (left ∙ filter-found (λ (waiter : Waiter). queued_at condition waiter.thread waiter.place) (λ (woken : Woken). woken.thread) (queued_thread condition) objects.waiters apart))

module _ (objects : ObjectState) (thread number count : ℕ) (within : number < limit.objects) (some : 0 < count) (most : count ≤ limit.barrier_count) where
  -- those who wait there make the count full with the caller
  pub barrier-full : (rest : List Waiter) → AreApart objects.waiters → rest ≡ filter (λ waiter. is_none (arrived_at number waiter.thread waiter.place)) objects.waiters
      → holds objects thread ≡ false → counts_differ objects number count ≡ false → count ≤ length (arrivals objects number) + 1
      → let_pass (Completed Done (Some 1)) (arrivals objects number) (record objects { waiters = rest }) ≡ barrier objects thread number count
  unfolding barrier without arrivals
  barrier-full rest apart left free alike full =
      let in_range : nat_le limit.objects number ≡ false = grind (arith, nat_tests) in
      let not_none : (count == 0) ≡ false = grind (arith, nat_tests) in
      let not_over : nat_lt limit.barrier_count count ≡ false = grind (arith, nat_tests) in
      let not_below : nat_lt (length (arrivals objects number) + 1) count ≡ false = grind (arith, nat_tests) in
      rw (in_range, not_none, not_over, free, alike, not_below)
      (ap (λ waiters. let_pass (Completed Done (Some 1)) (arrivals objects number) (record objects { waiters = waiters }))
      (left ∙ filter-found (λ (waiter : Waiter). arrived_at number waiter.thread waiter.place) (λ (arrived : ℕ). arrived) (arrived_thread number) objects.waiters apart
      ∙ rw map-id refl))
