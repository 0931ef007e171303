-- Who holds a mutex after its own call is ready.
use Rattle.std.proofs.Common.{◌≡◌, ℕ, ◌+◌, ◌%◌, Bool, true, false, not, ◌||◌, ◌==◌, nat_le, nat_lt, if◌then◌else◌, Option, Some, None, List, [], ◌∷◌, length, map, take, slice_get, unwrap_or, refl, ap, sym, ◌∙◌, subst}
use Rattle.std.specs.List.{cons_option, filter_map, list_any}
use Rattle.std.proofs.lemmas.Bool.{or_from, or_parts}
use Rattle.abi.specs.declared.call.Call.{Call}
use Rattle.abi.specs.declared.call.Call.TheVariants as call
use Rattle.abi.specs.declared.code.Code.{Code}
use Rattle.abi.specs.declared.code.Code.TheVariants.{Done as Success, NoSuchThread}
use Rattle.abi.specs.Limits as limit
use Rattle.abi.specs.declared.reply.Reply.{Reply}
use Rattle.abi.specs.declared.reply.Reply.TheVariants.{Completed, Waits, Ends}
use Rattle.condvar_barrier.proofs.Leaving.{queued_thread}
use Rattle.condvar_barrier.specs.Objects as objects
use Rattle.condvar_barrier.specs.Objects.{ObjectState, holds, is_among, is_held_by, queued_at, with_holder, with_waiter}
use Rattle.condvar_barrier.specs.Rows as row
use Rattle.condvar_barrier.specs.Rows.{Outcome, release_all, released_by}
use Rattle.condvar_barrier.specs.declared.waiter.Waiter.{Waiter}
use Rattle.condvar_barrier.specs.declared.woken.Woken.{Woken as WokenThread}
use Rattle.guest_memory.specs.Layout as layout
use Rattle.thread_table.specs.Status.{is_ready}
use Rattle.thread_table.specs.Thread.{blank, started}
use Rattle.thread_table.specs.Threads as table
use Rattle.thread_table.specs.Threads.{created, join_by_status, join_of, join_reply, new_number}
use Rattle.thread_table.specs.declared.status.Status.{Status}
use Rattle.thread_table.specs.declared.status.Status.TheVariants.{Ready, Woken, Blocked, Done}
use Rattle.thread_table.specs.declared.thread.Thread.{Thread}
use Rattle.call_table.specs.Effects as effects
use Rattle.call_table.specs.Effects.{Effect, after_reply, by_objects, call_finished, completed, create_numbered, effect, is_mapped_heap, is_page_count, is_permitted_range, let_pass, settled, wake_up, with_outcome}
use Rattle.call_table.specs.State.{State, hart_at, with_thread}
use Rattle.call_table.proofs.Parked.{is_one_of, wake_up-other}
use Rattle.token.proofs.Statuses.{status_at, status_of_more, status_of_others}

-- the threads that are let go

let_pass_ready : (n value : ℕ) (numbers : List ℕ) (threads : List Thread) → is_ready (status_at threads n) ≡ true → is_ready (status_at (let_pass value numbers threads) n) ≡ true
unfolding let_pass
let_pass_ready n value [] threads ready = ready
let_pass_ready n value (number ∷ numbers) threads ready =
    let_pass_ready n value numbers (with_thread threads number (completed (Some value)))
    (status_of_others is_ready n number threads (completed (Some value)) (λ same row was. refl) ready)

-- who doesn't wait isn't in a queue
not_queued : (waiters : List Waiter) (condition n : ℕ) → is_among n waiters ≡ false
    → is_one_of n (map (λ (one : WokenThread). one.thread) (filter_map (λ (waiter : Waiter). queued_at condition waiter.thread waiter.place) waiters)) ≡ false
not_queued [] condition n none = refl
not_queued (waiter ∷ waiters) condition n none =
    let parts = or_parts (waiter.thread == n) (is_among n waiters) none in
    by_place (queued_at condition waiter.thread waiter.place) refl parts.0 _ (not_queued waiters condition n parts.1)
  where
    by_place : (found : Option WokenThread) → queued_at condition waiter.thread waiter.place ≡ found → (waiter.thread == n) ≡ false → (rest : List WokenThread)
        → is_one_of n (map (λ (one : WokenThread). one.thread) rest) ≡ false → is_one_of n (map (λ (one : WokenThread). one.thread) (cons_option found rest)) ≡ false
    by_place None is other rest others = others
    by_place (Some woken) is other rest others = or_from _ _ (ap (λ (m : ℕ). m == n) (queued_thread condition waiter woken is) ∙ other) others

first_not : (woken : List WokenThread) (n : ℕ) → is_one_of n (map (λ (one : WokenThread). one.thread) woken) ≡ false → is_one_of n (map (λ (one : WokenThread). one.thread) (take 1 woken)) ≡ false
first_not [] n none = refl
first_not (one ∷ []) n none = none
first_not (one ∷ other ∷ woken) n none = or_from (one.thread == n) false (or_parts (one.thread == n) _ none).0 refl

-- who has ended holds no mutex
none_released : (thread : ℕ) (holders : List (Option ℕ)) → list_any (is_held_by thread) (map (released_by thread) holders) ≡ false
none_released thread [] = refl
none_released thread (holder ∷ holders) = or_from _ _ (by_test (is_held_by thread holder) refl) (none_released thread holders)
  where
    by_test : (held : Bool) → is_held_by thread holder ≡ held → is_held_by thread (if held then None else holder) ≡ false
    by_test true is = refl
    by_test false is = is

-- whether a call waits
abbrev is_wait : Reply → Bool
is_wait Waits = true
is_wait (Completed code value) = false
is_wait Ends = false

-- who holds a mutex waits for nobody's end
join_is_no_wait : (threads : List Thread) (caller n : ℕ) → is_wait (join_reply threads caller n true) ≡ false
unfolding join_reply
join_is_no_wait threads caller n = by_test (n == caller)
  where
    by_status : (status : Status) → is_wait (join_by_status status true) ≡ false
    by_status Ready = refl
    by_status (Woken mutex) = refl
    by_status Blocked = refl
    by_status (Done value) = refl

    by_place : (place : Option Thread) → is_wait (join_of place true) ≡ false
    by_place None = refl
    by_place (Some thread) = by_status thread.status

    by_test : (own : Bool) → is_wait (if own then table.refused NoSuchThread else join_of (slice_get threads n) true) ≡ false
    by_test true = refl
    by_test false = by_place (slice_get threads n)

-- after an effect its caller is ready, where it holds a mutex
pub record IsReadyHolder (thread : ℕ) (effect : Effect) : Type 0 where
  pub ready : holds effect.state.objects thread ≡ true → is_ready (status_at (after_reply effect.state.threads thread effect.reply) thread) ≡ true

module _ (state : State) (thread : ℕ) where
  record IsReadyOutcome (outcome : Outcome) : Type 0 where
    fine : IsReadyHolder thread (with_outcome outcome state)

  if_outcome : (test : Bool) {one other : Outcome} → (test ≡ true → IsReadyOutcome one) → (test ≡ false → IsReadyOutcome other) → IsReadyOutcome (if test then one else other)
  if_outcome true h k = h refl
  if_outcome false h k = k refl

  if_effect : (test : Bool) {one other : Effect} → IsReadyHolder thread one → IsReadyHolder thread other → IsReadyHolder thread (if test then one else other)
  if_effect true h k = h
  if_effect false h k = k

  module _ (ready : is_ready (status_at state.threads thread) ≡ true) (idle : is_among thread state.objects.waiters ≡ false) where
    -- a completed call leaves a ready caller ready
    completes : (code : Code) (value : Option ℕ) (threads : List Thread) → is_ready (status_at threads thread) ≡ true
        → is_ready (status_at (with_thread threads thread (call_finished code value)) thread) ≡ true
    completes code value threads ready = status_of_others is_ready thread thread threads (call_finished code value) (λ same row was. was) ready

    ready_kept : (code : Code) (value : Option ℕ) {other : State} → other.threads ≡ state.threads → IsReadyHolder thread (record { reply = Completed code value; state = other })
    ready_kept code value {other} threads = record { ready = λ held. completes code value _ (ap (λ threads. is_ready (status_at threads thread)) threads ∙ ready) }

    ready_replied : (code : Code) (value : Option ℕ) (after : ObjectState) → IsReadyOutcome (row.replied (Completed code value) after)
    unfolding let_pass wake_up
    ready_replied code value after = record { fine = record { ready = λ held. completes code value state.threads ready } }

    ready_waits : (after : ObjectState) → holds after thread ≡ false → IsReadyOutcome (row.replied Waits after)
    unfolding let_pass wake_up
    ready_waits after free = record { fine = record { ready = λ held. cc } }

    ready_wakes : (woken : List WokenThread) (after : ObjectState) → is_one_of thread (map (λ (one : WokenThread). one.thread) woken) ≡ false
        → IsReadyOutcome (row.woke (Completed Success (Some (length woken))) woken after)
    unfolding let_pass wake_up
    ready_wakes woken after others =
        record { fine = record { ready = λ held. completes Success (Some (length woken)) _ (ap (λ place. is_ready (unwrap_or place blank).status) (wake_up-other woken state.threads thread others) ∙ ready) } }

    ready_passes : (numbers : List ℕ) (after : ObjectState) → IsReadyOutcome (row.let_pass (Completed Success (Some 1)) numbers after)
    unfolding wake_up
    ready_passes numbers after = record { fine = record { ready = λ held. completes Success (Some 1) _ (let_pass_ready thread 0 numbers state.threads ready) } }

    ready_by_objects : (row : ObjectState → Outcome) → IsReadyOutcome (row state.objects) → IsReadyHolder thread (by_objects row state)
    unfolding by_objects
    ready_by_objects row h = h.fine

    ready_lock : (mutex : ℕ) → IsReadyOutcome (row.lock state.objects thread mutex)
    unfolding row.lock
    ready_lock mutex =
        if_outcome (nat_le limit.objects mutex) (λ is. ready_replied _ _ _)
        (λ is. if_outcome (objects.holds_mutex state.objects thread mutex) (λ is. ready_replied _ _ _) (λ is. ready_replied _ _ _))

    ready_unlock : (mutex : ℕ) → IsReadyOutcome (row.unlock state.objects thread mutex)
    unfolding row.unlock
    ready_unlock mutex =
        if_outcome (nat_le limit.objects mutex) (λ is. ready_replied _ _ _)
        (λ is. if_outcome (not (objects.holds_mutex state.objects thread mutex)) (λ is. ready_replied _ _ _) (λ is. ready_replied _ _ _))

    ready_wait : (condition mutex : ℕ) → IsReadyOutcome (row.wait state.objects thread condition mutex)
    unfolding row.wait with_waiter holds
    ready_wait condition mutex =
        if_outcome (nat_le limit.objects condition || nat_le limit.objects mutex) (λ is. ready_replied _ _ _)
        (λ is. if_outcome (not (objects.holds_mutex state.objects thread mutex)) (λ is. ready_replied _ _ _)
        (λ is. if_outcome (holds (with_holder state.objects mutex None) thread) (λ is. ready_replied _ _ _) (λ free. ready_waits _ free)))

    ready_signal : (condition : ℕ) → IsReadyOutcome (row.signal state.objects condition)
    unfolding row.signal objects.queue
    ready_signal condition = if_outcome (nat_le limit.objects condition) (λ is. ready_replied _ _ _) (λ is. ready_wakes _ _ (first_not _ thread (not_queued state.objects.waiters condition thread idle)))

    ready_broadcast : (condition : ℕ) → IsReadyOutcome (row.broadcast state.objects condition)
    unfolding row.broadcast objects.queue
    ready_broadcast condition = if_outcome (nat_le limit.objects condition) (λ is. ready_replied _ _ _) (λ is. ready_wakes _ _ (not_queued state.objects.waiters condition thread idle))

    ready_barrier : (number count : ℕ) → IsReadyOutcome (row.barrier state.objects thread number count)
    unfolding row.barrier with_waiter holds
    ready_barrier number count =
        if_outcome (nat_le limit.objects number || (count == 0) || nat_lt limit.barrier_count count) (λ is. ready_replied _ _ _)
        (λ is. if_outcome (holds state.objects thread) (λ is. ready_replied _ _ _)
        (λ free. if_outcome (objects.counts_differ state.objects number count) (λ is. ready_replied _ _ _)
        (λ is. if_outcome (nat_lt (length (objects.arrivals state.objects number) + 1) count) (λ is. ready_waits _ free) (λ is. ready_passes _ _))))

    ready_thread_exit : (value : ℕ) → IsReadyHolder thread (effects.thread_exit state thread value)
    unfolding effects.thread_exit release_all holds
    ready_thread_exit value = record { ready = λ held. let free = none_released thread state.objects.holders in cc }

    ready_create : (entry argument stack_pointer : ℕ) → IsReadyHolder thread (effects.create state entry argument stack_pointer)
    unfolding effects.create
    ready_create entry argument stack_pointer = if_effect (entry % 4 == 0) (numbered (new_number state.threads)) (ready_kept _ _ refl)
      where
        numbered : (number : Option ℕ) → IsReadyHolder thread (create_numbered state entry argument stack_pointer number)
        numbered None = ready_kept _ _ refl
        numbered (Some number) =
            let made : Thread = started (hart_at entry stack_pointer argument number) in
            record { ready = λ held. completes Success (Some number) _ (status_of_more is_ready thread state.threads made refl ready) }

    ready_join : (n : ℕ) → IsReadyHolder thread (effects.join state thread n)
    unfolding effects.join
    ready_join n =
        record { ready = λ held. by_reply _ (subst (λ (holds_lock : Bool). is_wait (join_reply state.threads thread n holds_lock) ≡ false) (sym held) (join_is_no_wait state.threads thread n)) }
      where
        by_reply : (reply : Reply) → is_wait reply ≡ false → is_ready (status_at (after_reply (table.after_reply state.threads thread reply) thread reply) thread) ≡ true
        by_reply (Completed code value) no_wait = completes code value state.threads ready
        by_reply Waits no_wait = cc
        by_reply Ends no_wait = ready

    ready_write : (address count : ℕ) → IsReadyHolder thread (effects.write state address count)
    unfolding effects.write
    ready_write address count =
        if_effect (nat_lt limit.transfer count) (ready_kept _ _ refl)
        (if_effect (not (is_permitted_range (λ perm. perm.read) state.memory address count)) (ready_kept _ _ refl)
        (if_effect (nat_lt limit.output (length state.output + count)) (ready_kept _ _ refl) (ready_kept _ _ refl)))

    ready_read : (address count : ℕ) → IsReadyHolder thread (effects.read state address count)
    unfolding effects.read
    ready_read address count =
        if_effect (nat_lt limit.transfer count) (ready_kept _ _ refl)
        (if_effect (not (is_permitted_range (λ perm. perm.write) state.memory address count)) (ready_kept _ _ refl) (ready_kept _ _ refl))

    ready_new_pages : (count : ℕ) → IsReadyHolder thread (effects.new_pages state count)
    unfolding effects.new_pages
    ready_new_pages count =
        if_effect (not (is_page_count count)) (ready_kept _ _ refl) (if_effect (nat_lt layout.heap_pages (state.heap_pages + count)) (ready_kept _ _ refl) (ready_kept _ _ refl))

    ready_release : (address count : ℕ) → IsReadyHolder thread (effects.release state address count)
    unfolding effects.release
    ready_release address count =
        if_effect (not (is_page_count count) || not (address % layout.page_size == 0)) (ready_kept _ _ refl)
        (if_effect (not (is_mapped_heap state address count)) (ready_kept _ _ refl) (ready_kept _ _ refl))

    -- each call
    ready_effect : (what : Call) → IsReadyHolder thread (effect state thread what)
    unfolding effect
    ready_effect (call.Exit status) = record { ready = λ held. ready }
    ready_effect (call.ThreadExit value) = ready_thread_exit value
    ready_effect (call.Create entry argument stack_pointer) = ready_create entry argument stack_pointer
    ready_effect (call.Join n) = ready_join n
    ready_effect (call.Lock mutex) = ready_by_objects (λ objects. row.lock objects thread mutex) (ready_lock mutex)
    ready_effect (call.Unlock mutex) = ready_by_objects (λ objects. row.unlock objects thread mutex) (ready_unlock mutex)
    ready_effect (call.Wait condition mutex) = ready_by_objects (λ objects. row.wait objects thread condition mutex) (ready_wait condition mutex)
    ready_effect (call.Signal condition) = ready_by_objects (λ objects. row.signal objects condition) (ready_signal condition)
    ready_effect (call.Broadcast condition) = ready_by_objects (λ objects. row.broadcast objects condition) (ready_broadcast condition)
    ready_effect (call.Barrier number count) = ready_by_objects (λ objects. row.barrier objects thread number count) (ready_barrier number count)
    ready_effect (call.Write address count) = ready_write address count
    ready_effect (call.Read address count) = ready_read address count
    ready_effect (call.Memory count) = ready_new_pages count
    ready_effect call.Sync = ready_kept _ _ refl
    ready_effect (call.Release address count) = ready_release address count
    ready_effect (call.Unknown number) = ready_kept _ _ refl

-- who holds a mutex after its call is ready, where it was ready before
pub ready_settled : (state : State) (thread : ℕ) (what : Call) → is_ready (status_at state.threads thread) ≡ true → is_among thread state.objects.waiters ≡ false
    → holds (settled thread (effect state thread what)).objects thread ≡ true → is_ready (status_at (settled thread (effect state thread what)).threads thread) ≡ true
unfolding settled
ready_settled state thread what ready idle held = (ready_effect state thread ready idle what).ready held
