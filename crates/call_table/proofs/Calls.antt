-- After each call, who waits at an object is blocked there.
use Rattle.std.proofs.Common.{◌≡◌, ℕ, zero, suc, ◌+◌, Bool, true, false, not, ◌&&◌, Option, Some, None, List, [], ◌∷◌, ◌++◌, length, map, filter, take, refl, ap, ◌∙◌}
use Rattle.std.specs.Prelude.{unwrap_or, if◌then◌else◌, nat_le, nat_lt, ◌==◌, ◌||◌, ◌%◌, slice_get, slice_set}
use Rattle.std.specs.List.{list_any, list_all}
use Rattle.std.proofs.lemmas.Option.{slice_get-map}
use Rattle.std.proofs.lemmas.List.Folds.{list_all-append}
use Rattle.abi.specs.declared.call.Call.{Call}
use Rattle.abi.specs.declared.call.Call.TheVariants as call
use Rattle.abi.specs.declared.code.Code.TheVariants.{Done as Success}
use Rattle.abi.specs.declared.reply.Reply.{Reply}
use Rattle.abi.specs.Limits as limit
use Rattle.guest_memory.specs.Layout as layout
use Rattle.abi.specs.declared.reply.Reply.TheVariants.{Completed, Waits, Ends}
use Rattle.ecalls.specs.Request.{call_of}
use Rattle.condvar_barrier.specs.Objects.{is_among}
use Rattle.condvar_barrier.specs.Objects.{ObjectState, is_waiting, with_waiter, with_holder, without}
use Rattle.condvar_barrier.specs.Objects as objects
use Rattle.condvar_barrier.specs.Rows as row
use Rattle.condvar_barrier.specs.Rows.{Outcome}
use Rattle.condvar_barrier.specs.declared.wait_place.WaitPlace.{WaitPlace}
use Rattle.condvar_barrier.specs.declared.wait_place.WaitPlace.TheVariants.{Condition, Barrier}
use Rattle.condvar_barrier.specs.declared.waiter.Waiter.{Waiter}
use Rattle.condvar_barrier.specs.declared.woken.Woken.{Woken as WokenThread}
use Rattle.thread_table.specs.Thread.{blank, started, is_joiner_of, is_join_of, let_go}
use Rattle.thread_table.specs.Threads as table
use Rattle.thread_table.specs.Threads.{with_status, with_status_of, ended, joiners, joined, join_reply, new_number}
use Rattle.thread_table.specs.Status.{is_ready, is_blocked}
use Rattle.thread_table.specs.declared.status.Status.{Status}
use Rattle.thread_table.specs.declared.status.Status.TheVariants.{Ready, Woken, Blocked, Done}
use Rattle.thread_table.specs.declared.thread.Thread.{Thread}
use Rattle.call_table.specs.State.{State, hart_at, row_of, with_thread}
use Rattle.call_table.specs.StateInCall.{state_in, came_to}
use Rattle.call_table.specs.declared.state_in_call.StateInCall.{StateInCall}
use Rattle.call_table.specs.Effects as effects
use Rattle.call_table.specs.Effects.{Effect, effect, settled, after_reply, call_finished, completed, with_outcome, by_objects, let_pass, wake_up, create_numbered, is_permitted_range, is_page_count, is_mapped_heap}
use Rattle.call_table.specs.Waiting.{is_join, waits_at_object, is_parked, are_parked}
use Rattle.call_table.proofs.Parked.{slice_get-itself, slice_get-other, parked-kept, parked-elsewhere, parked_fewer, not_among, among_fewer, apart, left, not_listed, with_thread-other, with_status-other, let_pass-other, wake_up-other}

-- after a reply
parked_after : (threads : List Thread) (thread : ℕ) (reply : Reply) (waiters : List Waiter) → is_among thread waiters ≡ false → are_parked threads waiters ≡ true
    → are_parked (after_reply threads thread reply) waiters ≡ true
parked_after threads thread (Completed code value) waiters idle parked =
    parked-elsewhere threads (after_reply threads thread (Completed code value)) waiters
    (λ m among. with_thread-other threads thread m (call_finished code value) (apart thread m waiters idle among)) parked
parked_after threads thread Waits waiters idle parked =
    parked-elsewhere threads (with_status threads thread Blocked) waiters (λ m among. with_status-other threads thread m Blocked (apart thread m waiters idle among)) parked
parked_after threads thread Ends waiters idle parked = parked

parked_after_join : (threads : List Thread) (thread : ℕ) (reply : Reply) (waiters : List Waiter) → is_among thread waiters ≡ false → are_parked threads waiters ≡ true
    → are_parked (table.after_reply threads thread reply) waiters ≡ true
parked_after_join threads thread (Completed code value) waiters idle parked = parked
parked_after_join threads thread Waits waiters idle parked = parked_after threads thread Waits waiters idle parked
parked_after_join threads thread Ends waiters idle parked = parked

-- one thread more
one_more : (threads : List Thread) (thread : Thread) (m : ℕ) → is_parked (slice_get threads m) ≡ true → is_parked (slice_get (threads ++ thread ∷ []) m) ≡ true
one_more [] thread m was = absurd (cc)
one_more (first ∷ threads) thread zero was = was
one_more (first ∷ threads) thread (suc m) was = one_more threads thread m was

blocked : (threads : List Thread) (n : ℕ) (row : Thread) → slice_get threads n ≡ Some row → slice_get (with_status threads n Blocked) n ≡ Some (record row { status = Blocked })
unfolding with_status
blocked threads n row is = rw is (slice_get-itself threads n (record row { status = Blocked }) row is)

-- a thread that waits at an object joins nobody
joins_none : (n : ℕ) (row : Thread) → waits_at_object row ≡ true → is_joiner_of n row ≡ false
unfolding is_joiner_of
joins_none n row waits = by (is_blocked row.status) (call_of row.hart) waits
  where
    by : (status : Bool) (what : Call) → (status && not (is_join what)) ≡ true → (status && is_join_of n what) ≡ false
    by false what h = refl
    by true (call.Join thread) h = absurd (cc)
    by true (call.Exit status) h = refl
    by true (call.ThreadExit value) h = refl
    by true (call.Create entry argument stack_pointer) h = refl
    by true (call.Lock mutex) h = refl
    by true (call.Unlock mutex) h = refl
    by true (call.Wait condition mutex) h = refl
    by true (call.Signal condition) h = refl
    by true (call.Broadcast condition) h = refl
    by true (call.Barrier number count) h = refl
    by true (call.Write address count) h = refl
    by true (call.Read address count) h = refl
    by true (call.Memory count) h = refl
    by true call.Sync h = refl
    by true (call.Release address count) h = refl
    by true (call.Unknown number) h = refl

stays : (n : ℕ) (row : Thread) → is_joiner_of n row ≡ false → let_go n row ≡ row
unfolding let_go
stays n row other = rw other refl

module _ (state : State) (thread : ℕ) where
  -- after this effect who waits at an object is blocked there
  pub record IsFine (effect : Effect) : Type 0 where
    pub is_fine : are_parked (after_reply effect.state.threads thread effect.reply) effect.state.objects.waiters ≡ true

  pub record IsFineOutcome (outcome : Outcome) : Type 0 where
    pub is_fine : IsFine (with_outcome outcome state)

  if-outcome : (test : Bool) {one other : Outcome} → IsFineOutcome one → IsFineOutcome other → IsFineOutcome (if test then one else other)
  if-outcome true h k = h
  if-outcome false h k = k

  if-effect : (test : Bool) {one other : Effect} → IsFine one → IsFine other → IsFine (if test then one else other)
  if-effect true h k = h
  if-effect false h k = k

  module _ (idle : is_among thread state.objects.waiters ≡ false) (parked : are_parked state.threads state.objects.waiters ≡ true) where
    -- threads and objects as they were
    fine : (reply : Reply) → are_parked (after_reply state.threads thread reply) state.objects.waiters ≡ true
    fine reply = parked_after state.threads thread reply state.objects.waiters idle parked

    -- nobody comes to wait, and nobody is let go
    kept-outcome : {outcome : Outcome} → outcome.objects.waiters ≡ state.objects.waiters → outcome.woken ≡ [] → outcome.passed ≡ [] → IsFineOutcome outcome
    unfolding let_pass wake_up
    kept-outcome {outcome} waiters woken passed = record { is_fine = record { is_fine = rw (waiters, woken, passed) (fine outcome.reply) } }

    -- threads and objects stay
    kept-effect : {effect : Effect} → effect.state.threads ≡ state.threads → effect.state.objects ≡ state.objects → IsFine effect
    kept-effect {effect} threads objects = record { is_fine = rw (threads, objects) (fine effect.reply) }

    fine-wakes : (woken : List WokenThread) → IsFineOutcome (row.wakes woken state.objects)
    unfolding let_pass without
    fine-wakes woken =
        let numbers : List ℕ = map (λ (one : WokenThread). one.thread) woken in
        let stay : Waiter → Bool = λ waiter. not (list_any (λ n. n == waiter.thread) numbers) in
        let waiters : List Waiter = filter stay state.objects.waiters in
        record {
          is_fine = record {
            is_fine =
                parked_after (wake_up woken state.threads) thread (Completed Success (Some (length woken))) waiters (among_fewer stay thread state.objects.waiters idle)
                (parked-elsewhere state.threads (wake_up woken state.threads) waiters (λ m among. wake_up-other woken state.threads m (left numbers m state.objects.waiters among))
                (parked_fewer state.threads stay state.objects.waiters parked));
          };
        }

    fine-passes : (numbers : List ℕ) → IsFineOutcome (row.passes numbers state.objects)
    unfolding wake_up without
    fine-passes numbers =
        let stay : Waiter → Bool = λ waiter. not (list_any (λ n. n == waiter.thread) numbers) in
        let waiters : List Waiter = filter stay state.objects.waiters in
        record {
          is_fine = record {
            is_fine =
                parked_after (let_pass 0 numbers state.threads) thread (Completed Success (Some 1)) waiters (among_fewer stay thread state.objects.waiters idle)
                (parked-elsewhere state.threads (let_pass 0 numbers state.threads) waiters (λ m among. let_pass-other 0 numbers state.threads m (left numbers m state.objects.waiters among))
                (parked_fewer state.threads stay state.objects.waiters parked));
          };
        }

    fine-waits : (own : Thread) → slice_get state.threads thread ≡ Some own → is_join (call_of own.hart) ≡ false → (holders : List (Option ℕ)) (place : WaitPlace)
        → IsFineOutcome (row.replied Waits (with_waiter (record state.objects { holders = holders }) thread place))
    unfolding let_pass wake_up with_waiter are_parked
    fine-waits own is no_join holders place =
        let threads : List Thread = with_status state.threads thread Blocked in
        let others : list_all (λ (waiter : Waiter). is_parked (slice_get threads waiter.thread)) state.objects.waiters ≡ true = fine Waits in
        let last : is_parked (slice_get threads thread) ≡ true = rw (blocked state.threads thread own is, no_join) refl in
        record { is_fine = record { is_fine = rw (list_all-append, others, last) refl } }

    by-objects : (row : ObjectState → Outcome) → IsFineOutcome (row state.objects) → IsFine (by_objects row state)
    unfolding by_objects
    by-objects row h = h.is_fine

    fine-lock : (mutex : ℕ) → IsFineOutcome (row.lock state.objects thread mutex)
    unfolding row.lock with_holder
    fine-lock mutex =
        if-outcome (nat_le limit.objects mutex) (kept-outcome refl refl refl)
        (if-outcome (objects.holds_mutex state.objects thread mutex) (kept-outcome refl refl refl) (kept-outcome refl refl refl))

    fine-unlock : (mutex : ℕ) → IsFineOutcome (row.unlock state.objects thread mutex)
    unfolding row.unlock with_holder
    fine-unlock mutex =
        if-outcome (nat_le limit.objects mutex) (kept-outcome refl refl refl)
        (if-outcome (not (objects.holds_mutex state.objects thread mutex)) (kept-outcome refl refl refl) (kept-outcome refl refl refl))

    fine-wait : (own : Thread) → slice_get state.threads thread ≡ Some own → is_join (call_of own.hart) ≡ false → (condition mutex : ℕ) → IsFineOutcome (row.wait state.objects thread condition mutex)
    unfolding row.wait with_holder
    fine-wait own is no_join condition mutex =
        if-outcome (nat_le limit.objects condition || nat_le limit.objects mutex) (kept-outcome refl refl refl)
        (if-outcome (not (objects.holds_mutex state.objects thread mutex)) (kept-outcome refl refl refl)
        (if-outcome (objects.holds (with_holder state.objects mutex None) thread) (kept-outcome refl refl refl)
        (fine-waits own is no_join (with_holder state.objects mutex None).holders (Condition condition mutex))))

    fine-signal : (condition : ℕ) → IsFineOutcome (row.signal state.objects condition)
    unfolding row.signal
    fine-signal condition = if-outcome (nat_le limit.objects condition) (kept-outcome refl refl refl) (fine-wakes (take 1 (objects.queue state.objects condition)))

    fine-broadcast : (condition : ℕ) → IsFineOutcome (row.broadcast state.objects condition)
    unfolding row.broadcast
    fine-broadcast condition = if-outcome (nat_le limit.objects condition) (kept-outcome refl refl refl) (fine-wakes (objects.queue state.objects condition))

    fine-barrier : (own : Thread) → slice_get state.threads thread ≡ Some own → is_join (call_of own.hart) ≡ false → (number count : ℕ) → IsFineOutcome (row.barrier state.objects thread number count)
    unfolding row.barrier
    fine-barrier own is no_join number count =
        if-outcome (nat_le limit.objects number || (count == 0) || nat_lt limit.barrier_count count) (kept-outcome refl refl refl)
        (if-outcome (objects.holds state.objects thread) (kept-outcome refl refl refl)
        (if-outcome (objects.counts_differ state.objects number count) (kept-outcome refl refl refl)
        (if-outcome (nat_lt (length (objects.arrivals state.objects number) + 1) count) (fine-waits own is no_join state.objects.holders (Barrier number count))
        (fine-passes (objects.arrivals state.objects number)))))

    fine-thread_exit : (value : ℕ) → IsFine (effects.thread_exit state thread value)
    unfolding effects.thread_exit row.release_all
    fine-thread_exit value =
        record {
          is_fine = parked-kept state.threads (let_pass value (joiners state.threads thread) (ended state.threads thread value)) state.objects.waiters
              (λ m among was. one m among was (slice_get state.threads m) refl) parked;
        }
      where
        one : (m : ℕ) → is_among m state.objects.waiters ≡ true → is_parked (slice_get state.threads m) ≡ true → (what : Option Thread) → slice_get state.threads m ≡ what
            → is_parked (slice_get (let_pass value (joiners state.threads thread) (ended state.threads thread value)) m) ≡ true
        one m among was None is = absurd (let not_parked : is_parked (slice_get state.threads m) ≡ false = rw is refl in cc)
        one m among was (Some own) is =
            let waits : waits_at_object own ≡ true = rw is at was in
            let no_joiner : is_joiner_of thread own ≡ false = joins_none thread own waits in
            let passed = let_pass-other value (joiners state.threads thread) (ended state.threads thread value) m (not_listed (is_joiner_of thread) m state.threads own is no_joiner) in
            let done = with_status-other (map (let_go thread) state.threads) thread m (Done value) (apart thread m state.objects.waiters idle among) in
            rw (passed, done, slice_get-map (let_go thread) state.threads m, is, stays thread own no_joiner) waits

    fine-create : (entry argument stack_pointer : ℕ) → IsFine (effects.create state entry argument stack_pointer)
    unfolding effects.create
    fine-create entry argument stack_pointer =
        if-effect (entry % 4 == 0) (numbered (new_number state.threads)) (kept-effect refl refl)
      where
        numbered : (number : Option ℕ) → IsFine (create_numbered state entry argument stack_pointer number)
        numbered None = kept-effect refl refl
        numbered (Some number) =
            let made : Thread = started (hart_at entry stack_pointer argument number) in
            record {
              is_fine =
                  parked_after (state.threads ++ made ∷ []) thread (Completed Success (Some number)) state.objects.waiters idle
                  (parked-kept state.threads (state.threads ++ made ∷ []) state.objects.waiters (λ m among was. one_more state.threads made m was) parked);
            }

    fine-join : (n : ℕ) → IsFine (effects.join state thread n)
    unfolding effects.join
    fine-join n =
        let holds_lock : Bool = objects.holds state.objects thread in
        record {
          is_fine =
              parked_after (joined state.threads thread n holds_lock) thread (join_reply state.threads thread n holds_lock) state.objects.waiters idle
              (parked_after_join state.threads thread (join_reply state.threads thread n holds_lock) state.objects.waiters idle parked);
        }

    fine-write : (address count : ℕ) → IsFine (effects.write state address count)
    unfolding effects.write
    fine-write address count =
        if-effect (nat_lt limit.transfer count) (kept-effect refl refl)
        (if-effect (not (is_permitted_range (λ perm. perm.read) state.memory address count)) (kept-effect refl refl)
        (if-effect (nat_lt limit.output (length state.output + count)) (kept-effect refl refl) (kept-effect refl refl)))

    fine-read : (address count : ℕ) → IsFine (effects.read state address count)
    unfolding effects.read
    fine-read address count =
        if-effect (nat_lt limit.transfer count) (kept-effect refl refl) (if-effect (not (is_permitted_range (λ perm. perm.write) state.memory address count)) (kept-effect refl refl) (kept-effect refl refl))

    fine-new_pages : (count : ℕ) → IsFine (effects.new_pages state count)
    unfolding effects.new_pages
    fine-new_pages count = if-effect (not (is_page_count count)) (kept-effect refl refl) (if-effect (nat_lt layout.heap_pages (state.heap_pages + count)) (kept-effect refl refl) (kept-effect refl refl))

    fine-release : (address count : ℕ) → IsFine (effects.release state address count)
    unfolding effects.release
    fine-release address count =
        if-effect (not (is_page_count count) || not (address % layout.page_size == 0)) (kept-effect refl refl) (if-effect (not (is_mapped_heap state address count)) (kept-effect refl refl) (kept-effect refl refl))

    -- each call
    fine-effect : (own : Thread) → slice_get state.threads thread ≡ Some own → (what : Call) → what ≡ call_of own.hart → IsFine (effect state thread what)
    unfolding effect
    fine-effect own is (call.Exit status) named = kept-effect refl refl
    fine-effect own is (call.ThreadExit value) named = fine-thread_exit value
    fine-effect own is (call.Create entry argument stack_pointer) named = fine-create entry argument stack_pointer
    fine-effect own is (call.Join n) named = fine-join n
    fine-effect own is (call.Lock mutex) named = by-objects (λ objects. row.lock objects thread mutex) (fine-lock mutex)
    fine-effect own is (call.Unlock mutex) named = by-objects (λ objects. row.unlock objects thread mutex) (fine-unlock mutex)
    fine-effect own is (call.Wait condition mutex) named = by-objects (λ objects. row.wait objects thread condition mutex) (fine-wait own is (rw (← named) refl) condition mutex)
    fine-effect own is (call.Signal condition) named = by-objects (λ objects. row.signal objects condition) (fine-signal condition)
    fine-effect own is (call.Broadcast condition) named = by-objects (λ objects. row.broadcast objects condition) (fine-broadcast condition)
    fine-effect own is (call.Barrier number count) named = by-objects (λ objects. row.barrier objects thread number count) (fine-barrier own is (rw (← named) refl) number count)
    fine-effect own is (call.Write address count) named = fine-write address count
    fine-effect own is (call.Read address count) named = fine-read address count
    fine-effect own is (call.Memory count) named = fine-new_pages count
    fine-effect own is call.Sync named = kept-effect refl refl
    fine-effect own is (call.Release address count) named = fine-release address count
    fine-effect own is (call.Unknown number) named = kept-effect refl refl

-- after a call of a thread who waits at an object is blocked there
pub parked-settled : (state : State) (thread : ℕ) (own : Thread) → slice_get state.threads thread ≡ Some own → is_among thread state.objects.waiters ≡ false
    → are_parked state.threads state.objects.waiters ≡ true
    → are_parked (settled thread (effect state thread (call_of own.hart))).threads (settled thread (effect state thread (call_of own.hart))).objects.waiters ≡ true
unfolding settled
parked-settled state thread own is idle parked = (fine-effect state thread idle parked own is (call_of own.hart) refl).is_fine

-- a thread that isn't blocked waits nowhere
pub waits_nowhere : (state : State) (thread : ℕ) → is_blocked (row_of state thread).status ≡ false → are_parked state.threads state.objects.waiters ≡ true → is_among thread state.objects.waiters ≡ false
waits_nowhere state thread runs parked = not_among state.threads thread state.objects.waiters (by_row (slice_get state.threads thread) runs) parked
  where
    by_row : (own : Option Thread) → is_blocked (unwrap_or own blank).status ≡ false → is_parked own ≡ false
    by_row None h = refl
    by_row (Some row) h = rw h refl

pub not_blocked : (status : Status) → is_ready status ≡ true → is_blocked status ≡ false
not_blocked Ready h = refl
not_blocked (Woken mutex) h = refl
not_blocked Blocked h = absurd (cc)
not_blocked (Done value) h = refl

pub idle-ready : (inner : StateInCall) (thread : ℕ) → is_ready (row_of (state_in inner) thread).status ≡ true → are_parked inner.threads inner.objects.waiters ≡ true
    → is_waiting inner.objects thread ≡ false
unfolding state_in is_waiting
idle-ready inner thread ready parked = waits_nowhere (state_in inner) thread (not_blocked (row_of (state_in inner) thread).status ready) parked

-- after a call that was carried out and settled
pub parked-called : (inner carried before : StateInCall) (thread : ℕ) (reply : Reply) (own : Thread) (what : Call) → state_in inner ≡ settled thread (came_to reply carried)
    → came_to reply carried ≡ effect (state_in before) thread what → what ≡ call_of own.hart → slice_get before.threads thread ≡ Some own
    → is_ready (row_of (state_in before) thread).status ≡ true → are_parked before.threads before.objects.waiters ≡ true → are_parked inner.threads inner.objects.waiters ≡ true
unfolding state_in
parked-called inner carried before thread reply own what put carries named is ready parked =
    let state : State = state_in before in
    let idle : is_among thread state.objects.waiters ≡ false = waits_nowhere state thread (not_blocked (row_of state thread).status ready) parked in
    let whole : state_in inner ≡ settled thread (effect state thread (call_of own.hart)) = put ∙ ap (settled thread) (carries ∙ ap (effect state thread) named) in
    rw (← whole) at (parked-settled state thread own is idle parked)

-- where something is made of a thread that isn't blocked
pub parked-made : (state : State) (thread : ℕ) (made : Thread → Thread) → is_blocked (row_of state thread).status ≡ false → are_parked state.threads state.objects.waiters ≡ true
    → are_parked (with_thread state.threads thread made) state.objects.waiters ≡ true
parked-made state thread made runs parked =
    let idle : is_among thread state.objects.waiters ≡ false = waits_nowhere state thread runs parked in
    parked-elsewhere state.threads (with_thread state.threads thread made) state.objects.waiters
    (λ m among. with_thread-other state.threads thread m made (apart thread m state.objects.waiters idle among)) parked

-- after the turn of a woken thread
pub parked-woken : (before : State) (thread mutex : ℕ) (threads : List Thread) (objects : ObjectState) → threads ≡ with_thread before.threads thread (completed None)
    → objects ≡ row.take_back before.objects thread mutex → (row_of before thread).status ≡ Woken mutex → are_parked before.threads before.objects.waiters ≡ true
    → are_parked threads objects.waiters ≡ true
unfolding row.take_back with_holder
parked-woken before thread mutex threads objects put took woken parked =
    let runs : is_blocked (row_of before thread).status ≡ false = rw woken refl in
    rw (put, took) (parked-made before thread (completed None) runs parked)

-- where a ready thread has another row
pub parked-set : (before : StateInCall) (thread : ℕ) (row : Thread) (threads : List Thread) → threads ≡ slice_set before.threads thread row
    → is_ready (row_of (state_in before) thread).status ≡ true → are_parked before.threads before.objects.waiters ≡ true → are_parked threads before.objects.waiters ≡ true
unfolding state_in
parked-set before thread row threads put ready parked =
    let idle : is_among thread before.objects.waiters ≡ false = waits_nowhere (state_in before) thread (not_blocked (row_of (state_in before) thread).status ready) parked in
    rw put
    (parked-elsewhere before.threads (slice_set before.threads thread row) before.objects.waiters
    (λ m among. slice_get-other before.threads thread m row (apart thread m before.objects.waiters idle among)) parked)

-- nobody waits at first
pub parked-free : (threads : List Thread) (free : ObjectState) → free ≡ objects.all_free → are_parked threads free.waiters ≡ true
unfolding are_parked objects.all_free
parked-free threads free is = rw is refl
