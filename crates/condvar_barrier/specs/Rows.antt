-- What each call of the objects comes to: the rows of the call table.
use Rattle.std.specs.Prelude.{ℕ, ◌+◌, not, ◌||◌, ◌==◌, nat_le, nat_lt, if◌then◌else◌, Option, Some, None, List, [], map, length, take}
use Rattle.abi.specs.declared.code.Code.{Code}
use Rattle.abi.specs.declared.code.Code.TheVariants.{Done, BadArgument, NotHolder, HoldsLock, AlreadyHeld, CountDiffers}
use Rattle.abi.specs.Limits as limit
use Rattle.abi.specs.declared.reply.Reply.{Reply}
use Rattle.abi.specs.declared.reply.Reply.TheVariants.{Completed, Waits}
use Rattle.condvar_barrier.specs.Objects.{ObjectState, is_held_by, holds, holds_mutex, with_holder, queue, arrivals, counts_differ, with_waiter, without}
use Rattle.condvar_barrier.specs.declared.wait_place.WaitPlace.TheVariants.{Condition, Barrier}
use Rattle.condvar_barrier.specs.declared.woken.Woken.{Woken}

-- What a call comes to: the reply to the caller, the threads that become woken, each with the mutex that its turn takes, the
-- threads that a full barrier lets pass, and the objects then.
pub record Outcome : Type 0 where
  pub reply : Reply
  pub woken : List Woken
  pub passed : List ℕ
  pub objects : ObjectState

-- a call that lets nobody go
abbrev pub replied : Reply → ObjectState → Outcome
replied reply objects = record { reply = reply; woken = []; passed = []; objects = objects }

-- a call that is refused with a code changes nothing
abbrev pub refused : Code → ObjectState → Outcome
refused code objects = replied (Completed code None) objects

-- a call of a condition variable, and those that it wakes
abbrev pub woke : Reply → List Woken → ObjectState → Outcome
woke reply woken objects = record { reply = reply; woken = woken; passed = []; objects = objects }

-- a call of a barrier, and those that it lets pass
abbrev pub let_pass : Reply → List ℕ → ObjectState → Outcome
let_pass reply threads objects = record { reply = reply; woken = []; passed = threads; objects = objects }

-- a call that wakes some who wait no more then: the value is how many
abbrev pub wakes : List Woken → ObjectState → Outcome
wakes woken objects = woke (Completed Done (Some (length woken))) woken (without objects (map (λ waiter. waiter.thread) woken))

-- a call that lets some pass who wait no more then: the value is 1
abbrev pub passes : List ℕ → ObjectState → Outcome
passes threads objects = let_pass (Completed Done (Some 1)) threads (without objects threads)

-- lock(mutex): a mutex that another thread holds changes its holder, which no run comes to
unfoldable pub lock : ObjectState → ℕ → ℕ → Outcome
lock objects thread mutex =
    if nat_le limit.objects mutex then refused BadArgument objects
    else (if holds_mutex objects thread mutex then refused AlreadyHeld objects
    else replied (Completed Done None) (with_holder objects mutex (Some thread)))

-- unlock(mutex): it is free then
unfoldable pub unlock : ObjectState → ℕ → ℕ → Outcome
unlock objects thread mutex =
    if nat_le limit.objects mutex then refused BadArgument objects
    else (if not (holds_mutex objects thread mutex) then refused NotHolder objects
    else replied (Completed Done None) (with_holder objects mutex None))

-- wait(condition, mutex): the caller may hold no other mutex once this one is given back
unfoldable pub wait : ObjectState → ℕ → ℕ → ℕ → Outcome
wait objects thread condition mutex =
    if nat_le limit.objects condition || nat_le limit.objects mutex then refused BadArgument objects
    else (if not (holds_mutex objects thread mutex) then refused NotHolder objects
    else (if holds (with_holder objects mutex None) thread then refused HoldsLock objects
    else replied Waits (with_waiter (with_holder objects mutex None) thread (Condition condition mutex))))

-- signal(condition): the first of the queue is woken
unfoldable pub signal : ObjectState → ℕ → Outcome
signal objects condition =
    if nat_le limit.objects condition then refused BadArgument objects
    else wakes (take 1 (queue objects condition)) objects

-- broadcast(condition): the whole queue is woken
unfoldable pub broadcast : ObjectState → ℕ → Outcome
broadcast objects condition =
    if nat_le limit.objects condition then refused BadArgument objects
    else wakes (queue objects condition) objects

-- barrier(number, count): the one that makes the count full lets all others pass
unfoldable pub barrier : ObjectState → ℕ → ℕ → ℕ → Outcome
barrier objects thread number count =
    if nat_le limit.objects number || (count == 0) || nat_lt limit.barrier_count count then refused BadArgument objects
    else (if holds objects thread then refused HoldsLock objects
    else (if counts_differ objects number count then refused CountDiffers objects
    else (if nat_lt (length (arrivals objects number) + 1) count then replied Waits (with_waiter objects thread (Barrier number count))
    else passes (arrivals objects number) objects)))

-- the holder of a mutex once a thread has released it, where it held it
abbrev pub released_by : ℕ → Option ℕ → Option ℕ
released_by thread holder = if is_held_by thread holder then None else holder

-- the end of a thread: each mutex that it held is free
unfoldable pub release_all : ObjectState → ℕ → ObjectState
release_all objects thread = record objects { holders = map (released_by thread) objects.holders }

-- the turn of a woken thread: it takes the mutex of its wait
unfoldable pub take_back : ObjectState → ℕ → ℕ → ObjectState
take_back objects thread mutex = with_holder objects mutex (Some thread)
