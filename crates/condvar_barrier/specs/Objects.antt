-- The mutexes, condition variables and barriers of a run.
use Rattle.std.specs.Prelude.{ℕ, Bool, false, not, ◌&&◌, ◌==◌, if◌then◌else◌, Option, Some, None, List, [], ◌∷◌, ◌++◌, replicate, slice_index_or, slice_set, filter}
use Rattle.std.specs.List.{list_any, filter_map}
use Rattle.abi.specs.Limits as limit
use Rattle.condvar_barrier.specs.declared.wait_place.WaitPlace.{WaitPlace}
use Rattle.condvar_barrier.specs.declared.wait_place.WaitPlace.TheVariants.{Condition, Barrier}
use Rattle.condvar_barrier.specs.declared.waiter.Waiter.{Waiter}
use Rattle.condvar_barrier.specs.declared.woken.Woken.{Woken}

-- The holder of each mutex, none where it is free, and the threads that wait at a condition variable or a barrier, in the order
-- in which they came.
pub record ObjectState : Type 0 where
  pub holders : List (Option ℕ)
  pub waiters : List Waiter

-- every mutex is free and nobody waits
unfoldable pub all_free : ObjectState
all_free = record { holders = replicate limit.objects None; waiters = [] }

-- whether a mutex with this holder is held by a thread
abbrev pub is_held_by : ℕ → Option ℕ → Bool
is_held_by thread None = false
is_held_by thread (Some holder) = holder == thread

-- whether a thread holds a mutex
unfoldable pub holds_mutex : ObjectState → ℕ → ℕ → Bool
holds_mutex objects thread mutex = is_held_by thread (slice_index_or objects.holders mutex None)

-- whether a thread holds any mutex
unfoldable pub holds : ObjectState → ℕ → Bool
holds objects thread = list_any (is_held_by thread) objects.holders

-- the objects where a mutex has this holder
unfoldable pub with_holder : ObjectState → ℕ → Option ℕ → ObjectState
with_holder objects mutex holder = record objects { holders = slice_set objects.holders mutex holder }

-- the thread and the mutex it gave back, where its place is the queue of this condition variable
abbrev pub queued_at : ℕ → ℕ → WaitPlace → Option Woken
queued_at condition thread (Condition number mutex) = if number == condition then Some (record { thread = thread; mutex = mutex }) else None
queued_at condition thread (Barrier number count) = None

-- the queue of a condition variable: each thread that waits there with the mutex it gave back, the first to come first
unfoldable pub queue : ObjectState → ℕ → List Woken
queue objects condition = filter_map (λ waiter. queued_at condition waiter.thread waiter.place) objects.waiters

-- the thread, where its place is this barrier
abbrev pub arrived_at : ℕ → ℕ → WaitPlace → Option ℕ
arrived_at barrier thread (Condition number mutex) = None
arrived_at barrier thread (Barrier number count) = if number == barrier then Some thread else None

-- the threads that wait at a barrier, the first to come first
unfoldable pub arrivals : ObjectState → ℕ → List ℕ
arrivals objects barrier = filter_map (λ waiter. arrived_at barrier waiter.thread waiter.place) objects.waiters

-- whether a place is this barrier with another count
abbrev pub names_another : ℕ → ℕ → WaitPlace → Bool
names_another barrier count (Condition number mutex) = false
names_another barrier count (Barrier number named) = number == barrier && not (named == count)

-- whether a thread waits at this barrier that named another count
unfoldable pub counts_differ : ObjectState → ℕ → ℕ → Bool
counts_differ objects barrier count = list_any (λ waiter. names_another barrier count waiter.place) objects.waiters

-- whether a thread is among some waiters
abbrev pub is_among : ℕ → List Waiter → Bool
is_among thread waiters = list_any (λ waiter. waiter.thread == thread) waiters

-- whether a thread waits
unfoldable pub is_waiting : ObjectState → ℕ → Bool
is_waiting objects thread = is_among thread objects.waiters

-- the objects where a thread has come to wait
unfoldable pub with_waiter : ObjectState → ℕ → WaitPlace → ObjectState
with_waiter objects thread place = record objects { waiters = objects.waiters ++ record { thread = thread; place = place } ∷ [] }

-- the objects where some threads wait no more
unfoldable pub without : ObjectState → List ℕ → ObjectState
without objects threads = record objects { waiters = filter (λ waiter. not (list_any (λ thread. thread == waiter.thread) threads)) objects.waiters }
