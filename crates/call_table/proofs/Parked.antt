-- Who waits at an object goes on to be blocked there, whatever is made of other threads.
use Rattle.std.proofs.Common.{◌≡◌, ℕ, zero, suc, ◌+◌, ◌<◌, Bool, true, false, cond, not, ◌&&◌, ◌||◌, Some, None, List, [], ◌∷◌, map, filter, refl, ◌∙◌, inl, inr, arith}
use Rattle.std.specs.Prelude.{◌==◌, slice_get, slice_set}
use Rattle.std.specs.List.{list_any, list_all, enumerate_from}
use Rattle.std.proofs.lemmas.Bool.{cases_eq}
use Rattle.std.proofs.lemmas.Bool.Decides.{nat_tests}
use Rattle.condvar_barrier.specs.Objects.{is_among}
use Rattle.condvar_barrier.specs.declared.waiter.Waiter.{Waiter}
use Rattle.condvar_barrier.specs.declared.woken.Woken.{Woken as WokenThread}
use Rattle.thread_table.specs.Threads.{with_status, with_status_of, numbers_where}
use Rattle.thread_table.specs.declared.status.Status.{Status}
use Rattle.thread_table.specs.declared.status.Status.TheVariants.{Woken}
use Rattle.thread_table.specs.declared.thread.Thread.{Thread}
use Rattle.call_table.specs.State.{with_thread, with_thread_by}
use Rattle.call_table.specs.Effects.{completed, let_pass, wake_up}
use Rattle.call_table.specs.Waiting.{is_parked, are_parked}

and-left : (one other : Bool) → (one && other) ≡ true → one ≡ true
and-left true other h = refl
and-left false other h = absurd (cc)

and-right : (one other : Bool) → (one && other) ≡ true → other ≡ true
and-right true other h = h
and-right false other h = absurd (cc)

or-left : (one other : Bool) → (one || other) ≡ false → one ≡ false
or-left false other h = refl
or-left true other h = absurd (cc)

or-right : (one other : Bool) → (one || other) ≡ false → other ≡ false
or-right false other h = h
or-right true other h = absurd (cc)

or-later : (one other : Bool) → other ≡ true → (one || other) ≡ true
or-later true other h = refl
or-later false other h = h

-- a place of a list has what it is set to
pub slice_get-itself : {X : Type 0} (xs : List X) (n : ℕ) (x y : X) → slice_get xs n ≡ Some y → slice_get (slice_set xs n x) n ≡ Some x
slice_get-itself [] n x y is = absurd (cc)
slice_get-itself (first ∷ xs) zero x y is = refl
slice_get-itself (first ∷ xs) (suc n) x y is = slice_get-itself xs n x y is

-- another place of a list is as it was
pub slice_get-other : {X : Type 0} (xs : List X) (n m : ℕ) (x : X) → (n == m) ≡ false → slice_get (slice_set xs n x) m ≡ slice_get xs m
slice_get-other [] n m x differs = refl
slice_get-other (y ∷ ys) zero zero x differs = absurd (cc)
slice_get-other (y ∷ ys) zero (suc m) x differs = refl
slice_get-other (y ∷ ys) (suc n) zero x differs = refl
slice_get-other (y ∷ ys) (suc n) (suc m) x differs = slice_get-other ys n m x (grind (arith, nat_tests))

pub with_thread-other : (threads : List Thread) (n m : ℕ) (made : Thread → Thread) → (n == m) ≡ false → slice_get (with_thread threads n made) m ≡ slice_get threads m
unfolding with_thread
with_thread-other threads n m made differs =
    elim (slice_get threads n) as (λ row. slice_get (with_thread_by threads n made row) m ≡ slice_get threads m)
    [ None ↦ refl | Some row ↦ slice_get-other threads n m (made row) differs ]

pub with_status-other : (threads : List Thread) (n m : ℕ) (status : Status) → (n == m) ≡ false → slice_get (with_status threads n status) m ≡ slice_get threads m
unfolding with_status
with_status-other threads n m status differs =
    elim (slice_get threads n) as (λ row. slice_get (with_status_of threads n status row) m ≡ slice_get threads m)
    [ None ↦ refl | Some row ↦ slice_get-other threads n m (record row { status = status }) differs ]

-- whether a number is one of some
abbrev pub is_one_of : ℕ → List ℕ → Bool
is_one_of m numbers = list_any (λ n. n == m) numbers

pub let_pass-other : (value : ℕ) (numbers : List ℕ) (threads : List Thread) (m : ℕ) → is_one_of m numbers ≡ false → slice_get (let_pass value numbers threads) m ≡ slice_get threads m
unfolding let_pass
let_pass-other value [] threads m differs = refl
let_pass-other value (n ∷ numbers) threads m differs =
    let_pass-other value numbers (with_thread threads n (completed (Some value))) m (or-right (n == m) (is_one_of m numbers) differs)
    ∙ with_thread-other threads n m (completed (Some value)) (or-left (n == m) (is_one_of m numbers) differs)

pub wake_up-other : (woken : List WokenThread) (threads : List Thread) (m : ℕ) → is_one_of m (map (λ (one : WokenThread). one.thread) woken) ≡ false → slice_get (wake_up woken threads) m ≡ slice_get threads m
unfolding wake_up
wake_up-other [] threads m differs = refl
wake_up-other (one ∷ woken) threads m differs =
    let rest : Bool = is_one_of m (map (λ (one : WokenThread). one.thread) woken) in
    wake_up-other woken (with_status threads one.thread (Woken one.mutex)) m (or-right (one.thread == m) rest differs)
    ∙ with_status-other threads one.thread m (Woken one.mutex) (or-left (one.thread == m) rest differs)

-- what keeps each waiter blocked keeps all
pub parked-kept : (old new : List Thread) (waiters : List Waiter)
    → ((m : ℕ) → is_among m waiters ≡ true → is_parked (slice_get old m) ≡ true → is_parked (slice_get new m) ≡ true)
    → are_parked old waiters ≡ true → are_parked new waiters ≡ true
unfolding are_parked
parked-kept old new [] keeps parked = refl
parked-kept old new (waiter ∷ waiters) keeps parked =
    let first : is_parked (slice_get new waiter.thread) ≡ true =
    keeps waiter.thread (rw (itself waiter.thread) refl)
    (and-left (is_parked (slice_get old waiter.thread)) (list_all (λ waiter. is_parked (slice_get old waiter.thread)) waiters) parked) in
    rw first
    (parked-kept old new waiters (λ m h. keeps m (or-later (waiter.thread == m) (is_among m waiters) h))
    (and-right (is_parked (slice_get old waiter.thread)) (list_all (λ waiter. is_parked (slice_get old waiter.thread)) waiters) parked))
  where
    itself : (n : ℕ) → (n == n) ≡ true
    itself n = grind (arith, nat_tests)

-- the same, where nothing is made of those that wait
pub parked-elsewhere : (old new : List Thread) (waiters : List Waiter) → ((m : ℕ) → is_among m waiters ≡ true → slice_get new m ≡ slice_get old m)
    → are_parked old waiters ≡ true → are_parked new waiters ≡ true
parked-elsewhere old new waiters same parked = parked-kept old new waiters (λ m h was. rw (same m h) was) parked

-- who isn't blocked at an object isn't among them
pub not_among : (threads : List Thread) (n : ℕ) (waiters : List Waiter) → is_parked (slice_get threads n) ≡ false → are_parked threads waiters ≡ true → is_among n waiters ≡ false
unfolding are_parked
not_among threads n [] runs parked = refl
not_among threads n (waiter ∷ waiters) runs parked =
    let first : is_parked (slice_get threads waiter.thread) ≡ true =
    and-left (is_parked (slice_get threads waiter.thread)) (list_all (λ waiter. is_parked (slice_get threads waiter.thread)) waiters) parked in
    let rest : is_among n waiters ≡ false =
    not_among threads n waiters runs (and-right (is_parked (slice_get threads waiter.thread)) (list_all (λ waiter. is_parked (slice_get threads waiter.thread)) waiters) parked) in
    elim (cases_eq waiter.thread n) [
      | inl same ↦ absurd (let other : is_parked (slice_get threads waiter.thread) ≡ false = rw same runs in cc)
      | inr other ↦ (let differs : (waiter.thread == n) ≡ false = grind (arith, nat_tests) in rw differs rest)
    ]

-- a number that is among them and one that isn't
pub apart : (n m : ℕ) (waiters : List Waiter) → is_among n waiters ≡ false → is_among m waiters ≡ true → (n == m) ≡ false
apart n m waiters without among =
    elim (cases_eq n m) [
      | inl same ↦ absurd (let also : is_among m waiters ≡ false = rw (← same) without in cc)
      | inr other ↦ grind (arith, nat_tests)
    ]

-- fewer of them
pub among_fewer : (test : Waiter → Bool) (n : ℕ) (waiters : List Waiter) → is_among n waiters ≡ false → is_among n (filter test waiters) ≡ false
among_fewer test n [] none = refl
among_fewer test n (waiter ∷ waiters) none =
    let rest : is_among n (filter test waiters) ≡ false = among_fewer test n waiters (or-right (waiter.thread == n) (is_among n waiters) none) in
    elim (test waiter) as (λ passes. is_among n (cond passes (waiter ∷ filter test waiters) (filter test waiters)) ≡ false) [
      | true ↦ rw (or-left (waiter.thread == n) (is_among n waiters) none) rest
      | false ↦ rest
    ]

pub parked_fewer : (threads : List Thread) (test : Waiter → Bool) (waiters : List Waiter) → are_parked threads waiters ≡ true → are_parked threads (filter test waiters) ≡ true
unfolding are_parked
parked_fewer threads test [] parked = refl
parked_fewer threads test (waiter ∷ waiters) parked =
    let all : List Waiter → Bool = λ some. list_all (λ waiter. is_parked (slice_get threads waiter.thread)) some in
    let rest : all (filter test waiters) ≡ true =
    parked_fewer threads test waiters (and-right (is_parked (slice_get threads waiter.thread)) (all waiters) parked) in
    elim (test waiter) as (λ passes. all (cond passes (waiter ∷ filter test waiters) (filter test waiters)) ≡ true) [
      | true ↦ rw (and-left (is_parked (slice_get threads waiter.thread)) (all waiters) parked) rest
      | false ↦ rest
    ]

-- who is left where some go isn't one of those
abbrev left_of : List ℕ → List Waiter → List Waiter
left_of numbers waiters = filter (λ waiter. not (list_any (λ n. n == waiter.thread) numbers)) waiters

pub left : (numbers : List ℕ) (m : ℕ) (waiters : List Waiter) → is_among m (left_of numbers waiters) ≡ true → is_one_of m numbers ≡ false
left numbers m [] among = absurd (cc)
left numbers m (waiter ∷ waiters) among = by_test (is_one_of waiter.thread numbers) refl (left numbers m waiters) among
  where
    by_test : (goes : Bool) → is_one_of waiter.thread numbers ≡ goes → (is_among m (left_of numbers waiters) ≡ true → is_one_of m numbers ≡ false)
        → is_among m (cond (not goes) (waiter ∷ left_of numbers waiters) (left_of numbers waiters)) ≡ true → is_one_of m numbers ≡ false
    by_test true is rest among = rest among
    by_test false is rest among =
        elim (cases_eq waiter.thread m) [
          | inl same ↦ rw (← same) is
          | inr other ↦ (let differs : (waiter.thread == m) ≡ false = grind (arith, nat_tests) in rest (rw differs at among))
        ]

-- a thread of which a test doesn't hold isn't listed
not_before : (test : Thread → Bool) (low m : ℕ) (threads : List Thread) → m < low → is_one_of m (map (λ (row : ℕ × Thread). row.0) (filter (λ row. test row.1) (enumerate_from low threads))) ≡ false
not_before test low m [] before = refl
not_before test low m (thread ∷ threads) before =
    let later : List (ℕ × Thread) = filter (λ row. test row.1) (enumerate_from (low + 1) threads) in
    let first : (ℕ × Thread) → ℕ = λ row. row.0 in
    let rest : is_one_of m (map first later) ≡ false = not_before test (low + 1) m threads (omega arith) in
    let differs : (low == m) ≡ false = grind (arith, nat_tests) in
    elim (test thread) as (λ passes. is_one_of m (map first (cond passes ((low, thread) ∷ later) later)) ≡ false) [ true ↦ rw differs rest | false ↦ rest ]

not_listed-from : (test : Thread → Bool) (low k : ℕ) (threads : List Thread) (thread : Thread) → slice_get threads k ≡ Some thread → test thread ≡ false
    → is_one_of (low + k) (map (λ (row : ℕ × Thread). row.0) (filter (λ row. test row.1) (enumerate_from low threads))) ≡ false
not_listed-from test low k [] thread is fails = refl
not_listed-from test low zero (first ∷ threads) thread is fails =
    let same : first ≡ thread = cc in
    let skipped : test first ≡ false = rw same fails in
    rw skipped (not_before test (low + 1) (low + 0) threads (omega arith))
not_listed-from test low (suc k) (first ∷ threads) thread is fails =
    let later : List (ℕ × Thread) = filter (λ row. test row.1) (enumerate_from (low + 1) threads) in
    let number : (ℕ × Thread) → ℕ = λ row. row.0 in
    let place : low + 1 + k ≡ low + suc k = omega arith in
    let rest : is_one_of (low + suc k) (map number later) ≡ false = rw place at (not_listed-from test (low + 1) k threads thread is fails) in
    let differs : (low == low + suc k) ≡ false = grind (arith, nat_tests) in
    elim (test first) as (λ passes. is_one_of (low + suc k) (map number (cond passes ((low, first) ∷ later) later)) ≡ false) [ true ↦ rw differs rest | false ↦ rest ]

pub not_listed : (test : Thread → Bool) (m : ℕ) (threads : List Thread) (thread : Thread) → slice_get threads m ≡ Some thread → test thread ≡ false → is_one_of m (numbers_where test threads) ≡ false
unfolding numbers_where
not_listed test m threads thread is fails =
    let place : 0 + m ≡ m = omega arith in
    rw place at (not_listed-from test 0 m threads thread is fails)
