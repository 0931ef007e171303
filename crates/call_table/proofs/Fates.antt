-- Each call comes to a reply that the call table lets it have.
use Rattle.std.proofs.Common.{◌≡◌, ℕ, Bool, true, false, if◌then◌else◌, Option, Some, None, List, refl, sym}
use Rattle.std.specs.Prelude.{slice_get}
use Rattle.abi.specs.Calls.{CallerFate, GoesOn, MayWait, fate_of, kind_in, may_reply}
use Rattle.abi.specs.declared.call.Call.{Call}
use Rattle.abi.specs.declared.call.Call.TheVariants as call
use Rattle.abi.specs.declared.reply.Reply.{Reply}
use Rattle.condvar_barrier.specs.Objects.{ObjectState}
use Rattle.condvar_barrier.specs.Rows.{Outcome, lock, unlock, wait, signal, broadcast, barrier}
use Rattle.ecalls.specs.Request.{call_of}
use Rattle.thread_table.specs.Threads.{join_by_status, join_of, join_reply}
use Rattle.thread_table.specs.declared.thread.Thread.{Thread}
use Rattle.thread_table.specs.declared.status.Status.{Status}
use Rattle.thread_table.specs.declared.status.Status.TheVariants.{Ready, Woken, Blocked, Done}
use Rattle.call_table.specs.Effects.{Effect, by_objects, create, create_numbered, effect, join, new_pages, read, release, thread_exit, write}
use Rattle.call_table.specs.State.{State, row_of}

-- of two replies, by a test
either : (fate : CallerFate) (test : Bool) (one other : Reply) → may_reply fate one ≡ true → may_reply fate other ≡ true → may_reply fate (if test then one else other) ≡ true
either fate true one other first second = first
either fate false one other first second = second

outcomes : (fate : CallerFate) (test : Bool) (one other : Outcome) → may_reply fate one.reply ≡ true → may_reply fate other.reply ≡ true
    → may_reply fate (if test then one else other).reply ≡ true
outcomes fate true one other first second = first
outcomes fate false one other first second = second

effects : (fate : CallerFate) (test : Bool) (one other : Effect) → may_reply fate one.reply ≡ true → may_reply fate other.reply ≡ true
    → may_reply fate (if test then one else other).reply ≡ true
effects fate true one other first second = first
effects fate false one other first second = second

-- the objects' calls

of_lock : (objects : ObjectState) (thread mutex : ℕ) → may_reply GoesOn (lock objects thread mutex).reply ≡ true
unfolding lock
of_lock objects thread mutex = search outcomes

of_unlock : (objects : ObjectState) (thread mutex : ℕ) → may_reply GoesOn (unlock objects thread mutex).reply ≡ true
unfolding unlock
of_unlock objects thread mutex = search outcomes

of_wait : (objects : ObjectState) (thread condition mutex : ℕ) → may_reply MayWait (wait objects thread condition mutex).reply ≡ true
unfolding wait
of_wait objects thread condition mutex = search outcomes

of_signal : (objects : ObjectState) (condition : ℕ) → may_reply GoesOn (signal objects condition).reply ≡ true
unfolding signal
of_signal objects condition = search outcomes

of_broadcast : (objects : ObjectState) (condition : ℕ) → may_reply GoesOn (broadcast objects condition).reply ≡ true
unfolding broadcast
of_broadcast objects condition = search outcomes

of_barrier : (objects : ObjectState) (thread number count : ℕ) → may_reply MayWait (barrier objects thread number count).reply ≡ true
unfolding barrier
of_barrier objects thread number count = search outcomes

-- the threads' calls

of_numbered : (state : State) (entry argument stack_pointer : ℕ) (number : Option ℕ) → may_reply GoesOn (create_numbered state entry argument stack_pointer number).reply ≡ true
of_numbered state entry argument stack_pointer None = refl
of_numbered state entry argument stack_pointer (Some number) = refl

of_create : (state : State) (entry argument stack_pointer : ℕ) → may_reply GoesOn (create state entry argument stack_pointer).reply ≡ true
unfolding create
of_create state entry argument stack_pointer = search (effects, of_numbered)

of_status : (status : Status) (holds_lock : Bool) → may_reply MayWait (join_by_status status holds_lock) ≡ true
of_status (Done value) holds_lock = refl
of_status Ready holds_lock = search either
of_status (Woken mutex) holds_lock = search either
of_status Blocked holds_lock = search either

of_found : (found : Option Thread) (holds_lock : Bool) → may_reply MayWait (join_of found holds_lock) ≡ true
of_found None holds_lock = refl
of_found (Some thread) holds_lock = of_status thread.status holds_lock

of_join : (threads : List Thread) (caller n : ℕ) (holds_lock : Bool) → may_reply MayWait (join_reply threads caller n holds_lock) ≡ true
unfolding join_reply
of_join threads caller n holds_lock = search (either, of_found)

-- the calls of the memory, the input and the output

of_write : (state : State) (address count : ℕ) → may_reply GoesOn (write state address count).reply ≡ true
unfolding write
of_write state address count = search effects

of_read : (state : State) (address count : ℕ) → may_reply GoesOn (read state address count).reply ≡ true
unfolding read
of_read state address count = search effects

of_pages : (state : State) (count : ℕ) → may_reply GoesOn (new_pages state count).reply ≡ true
unfolding new_pages
of_pages state count = search effects

of_release : (state : State) (address count : ℕ) → may_reply GoesOn (release state address count).reply ≡ true
unfolding release
of_release state address count = search effects

pub has_fate : (state : State) (thread : ℕ) (asked : Call) → may_reply (fate_of (kind_in asked)) (effect state thread asked).reply ≡ true
unfolding effect by_objects thread_exit join
has_fate state thread (call.Exit status) = refl
has_fate state thread (call.ThreadExit value) = refl
has_fate state thread (call.Create entry argument stack_pointer) = of_create state entry argument stack_pointer
has_fate state thread (call.Join n) = of_join state.threads thread n _
has_fate state thread (call.Lock mutex) = of_lock state.objects thread mutex
has_fate state thread (call.Unlock mutex) = of_unlock state.objects thread mutex
has_fate state thread (call.Wait condition mutex) = of_wait state.objects thread condition mutex
has_fate state thread (call.Signal condition) = of_signal state.objects condition
has_fate state thread (call.Broadcast condition) = of_broadcast state.objects condition
has_fate state thread (call.Barrier number count) = of_barrier state.objects thread number count
has_fate state thread (call.Write address count) = of_write state address count
has_fate state thread (call.Read address count) = of_read state address count
has_fate state thread (call.Memory count) = of_pages state count
has_fate state thread call.Sync = refl
has_fate state thread (call.Release address count) = of_release state address count
has_fate state thread (call.Unknown number) = refl

-- the reply of the call that a thread's hart makes
pub reply_has_fate : (state : State) (thread : ℕ) (own : Thread) (asked : Call) (came : Effect) → asked ≡ call_of own.hart → slice_get state.threads thread ≡ Some own
    → came ≡ effect state thread asked → may_reply (fate_of (kind_in (call_of (row_of state thread).hart))) came.reply ≡ true
reply_has_fate state thread own asked came named is done =
    rw (is, sym named, done) (has_fate state thread asked)
