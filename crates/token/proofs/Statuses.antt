-- A turn leaves the other threads their turns.
use Rattle.std.proofs.Common.{◌≡◌, ◌≢◌, ℕ, zero, suc, ◌<◌, ◌≤◌, ◌%◌, Bool, true, false, ◌==◌, nat_lt, if◌then◌else◌, Option, Some, None, List, [], ◌∷◌, ◌++◌, length, map, slice_get, unwrap_or, refl, ap, sym, ◌∙◌, subst, arith, length-append}
use Rattle.std.proofs.lemmas.Bool.{ltb-true}
use Rattle.std.proofs.lemmas.List.{length-map}
use Rattle.abi.specs.declared.call.Call.{Call}
use Rattle.abi.specs.declared.call.Call.TheVariants as call
use Rattle.abi.specs.declared.reply.Reply.{Reply}
use Rattle.abi.specs.declared.reply.Reply.TheVariants.{Completed, Waits, Ends}
use Rattle.condvar_barrier.specs.Objects.{ObjectState, holds}
use Rattle.condvar_barrier.specs.Rows.{Outcome}
use Rattle.condvar_barrier.specs.declared.woken.Woken.{Woken as WokenThread}
use Rattle.hart.specs.HartState.{HartState}
use Rattle.hart.specs.declared.stop.Stop.{Stop}
use Rattle.hart.specs.declared.stop.Stop.TheVariants as stopped
use Rattle.thread_table.specs.Status.{has_turn}
use Rattle.thread_table.specs.Thread.{blank, is_joiner_of, let_go, started}
use Rattle.thread_table.specs.Threads as table
use Rattle.thread_table.specs.Threads.{ended, join_reply, joiners, new_number, with_status, with_status_of}
use Rattle.thread_table.specs.declared.status.Status.{Status}
use Rattle.thread_table.specs.declared.status.Status.TheVariants.{Ready, Blocked}
use Rattle.thread_table.specs.declared.thread.Thread.{Thread}
use Rattle.ecalls.specs.Request.{call_of}
use Rattle.guest_memory.specs.Memory.{Memory}
use Rattle.token.specs.Setup.{Setup, first_state}
use Rattle.call_table.specs.State.{State, hart_at, with_thread, with_thread_by, row_of}
use Rattle.token.specs.Due.{PrivateRun, thread_due}
use Rattle.token.specs.History.{History, present, version}
use Rattle.token.specs.Legal.{Follows, IsLegal, step_of}
use Rattle.token.specs.Turns.{Ran, Step, after_stop, committed, run_step, wake_step}
use Rattle.call_table.specs.Effects.{Effect, after_reply, by_objects, create, create_numbered, effect, join, let_pass, new_pages, read, release, settled, thread_exit, wake_up, write}
use Rattle.token.specs.declared.due.Due.{Due}
use Rattle.token.specs.declared.due.Due.TheVariants as due
use Rattle.call_table.proofs.Committing.{length-with_thread}
use Rattle.token.proofs.Dues.{thread_is}

-- the status of a thread
abbrev pub status_at : List Thread → ℕ → Status
status_at threads n = (unwrap_or (slice_get threads n) blank).status

-- whether a thread has a turn
abbrev pub turn_at : List Thread → ℕ → Bool
turn_at threads n = has_turn (status_at threads n)

-- a thread that there is and that has a turn
abbrev pub HasTurn : List Thread → ℕ → Type 0
HasTurn threads n = (n < length threads) × (turn_at threads n ≡ true)

-- A thread that has a turn among some threads has one among others. There are no fewer of them, and not more than 256 where there
-- weren't.
pub record Keeps (n : ℕ) (threads others : List Thread) : Type 0 where
  pub kept : turn_at threads n ≡ true → turn_at others n ≡ true
  pub grows : length threads ≤ length others
  pub few : length threads ≤ 256 → length others ≤ 256

as_it_was : (n : ℕ) (threads : List Thread) → Keeps n threads threads
as_it_was n threads = record { kept = λ has. has; grows = omega arith; few = λ few. few }

then_kept : (n : ℕ) (first second third : List Thread) → Keeps n first second → Keeps n second third → Keeps n first third
then_kept n first second third one other = record { kept = λ has. other.kept (one.kept has); grows = omega arith; few = λ few. other.few (one.few few) }

-- what is made of a thread whose status passes a test passes it
abbrev pub Allows : (Status → Bool) → (Thread → Thread) → Type 0
Allows test made = (row : Thread) → test row.status ≡ true → test (made row).status ≡ true

with_thread-cons : (row : Thread) (threads : List Thread) (n : ℕ) (made : Thread → Thread)
    → with_thread (row ∷ threads) (suc n) made ≡ row ∷ with_thread threads n made
unfolding with_thread
with_thread-cons row threads n made = by_place (slice_get threads n)
  where
    by_place : (place : Option Thread) → with_thread_by (row ∷ threads) (suc n) made place ≡ row ∷ with_thread_by threads n made place
    by_place None = refl
    by_place (Some other) = refl

-- a thread's status passes a test as before where one thread is changed: another, or to one that passes it
pub status_of_others : (test : Status → Bool) (n m : ℕ) (threads : List Thread) (made : Thread → Thread) → (n ≡ m → Allows test made) → test (status_at threads n) ≡ true
    → test (status_at (with_thread threads m made) n) ≡ true
unfolding with_thread
status_of_others test n m [] made allows has = has
status_of_others test zero zero (row ∷ threads) made allows has = allows refl row has
status_of_others test (suc n) zero (row ∷ threads) made allows has = has
status_of_others test zero (suc m) (row ∷ threads) made allows has =
    subst (λ rows. test (status_at rows zero) ≡ true) (sym (with_thread-cons row threads m made)) has
status_of_others test (suc n) (suc m) (row ∷ threads) made allows has =
    subst (λ rows. test (status_at rows (suc n)) ≡ true) (sym (with_thread-cons row threads m made)) (status_of_others test n m threads made (λ same. allows (ap suc same)) has)

-- one thread is changed: another, or to one that has a turn if it had one
changed_kept : (n m : ℕ) (threads : List Thread) (made : Thread → Thread) → (n ≡ m → Allows has_turn made) → Keeps n threads (with_thread threads m made)
changed_kept n m threads made allows = record {
  kept = status_of_others has_turn n m threads made allows;
  grows = omega (arith, length-with_thread threads m made);
  few = λ few. omega (arith, length-with_thread threads m made);
}

with_status_is : (threads : List Thread) (m : ℕ) (status : Status) → with_thread threads m (λ row. record row { status = status }) ≡ with_status threads m status
unfolding with_thread with_status
with_status_is threads m status = by_place (slice_get threads m)
  where
    by_place : (place : Option Thread) → with_thread_by threads m (λ row. record row { status = status }) place ≡ with_status_of threads m status place
    by_place None = refl
    by_place (Some row) = refl

status_kept : (n m : ℕ) (threads : List Thread) (status : Status) → (n ≡ m → has_turn status ≡ true) → Keeps n threads (with_status threads m status)
status_kept n m threads status allows =
    subst (Keeps n threads) (with_status_is threads m status) (changed_kept n m threads _ (λ same row has. allows same))

wake_up_kept : (n : ℕ) (woken : List WokenThread) (threads : List Thread) → Keeps n threads (wake_up woken threads)
unfolding wake_up
wake_up_kept n [] threads = as_it_was n threads
wake_up_kept n (woken ∷ rest) threads =
    then_kept n threads _ _ (status_kept n woken.thread threads _ (λ same. refl)) (wake_up_kept n rest _)

let_pass_kept : (n value : ℕ) (numbers : List ℕ) (threads : List Thread) → Keeps n threads (let_pass value numbers threads)
unfolding let_pass
let_pass_kept n value [] threads = as_it_was n threads
let_pass_kept n value (number ∷ numbers) threads =
    then_kept n threads _ _ (changed_kept n number threads _ (λ same row has. refl)) (let_pass_kept n value numbers _)

turn_of_let_go : (n m : ℕ) (threads : List Thread) → turn_at threads n ≡ true → turn_at (map (let_go m) threads) n ≡ true
unfolding let_go
turn_of_let_go n m [] has = has
turn_of_let_go zero m (row ∷ threads) has =
    elim (is_joiner_of m row) as (λ joins. has_turn (if joins then record row { status = Ready } else row).status ≡ true) [ true ↦ refl | false ↦ has ]
turn_of_let_go (suc n) m (row ∷ threads) has = turn_of_let_go n m threads has

ended_kept : (n m value : ℕ) (threads : List Thread) → n ≢ m → Keeps n threads (ended threads m value)
ended_kept n m value threads other =
    then_kept n threads _ _
    (record { kept = turn_of_let_go n m threads; grows = omega (arith, length-map threads (let_go m)); few = λ few. omega (arith, length-map threads (let_go m)) })
    (status_kept n m _ _ (λ same. absurd (other same)))

pub status_of_more : (test : Status → Bool) (n : ℕ) (threads : List Thread) (row : Thread) → test row.status ≡ true → test (status_at threads n) ≡ true
    → test (status_at (threads ++ row ∷ []) n) ≡ true
status_of_more test zero [] row new has = new
status_of_more test (suc n) [] row new has = has
status_of_more test zero (first ∷ threads) row new has = has
status_of_more test (suc n) (first ∷ threads) row new has = status_of_more test n threads row new has

-- the calls

either_kept : (n : ℕ) (threads : List Thread) (test : Bool) (one other : Effect) → Keeps n threads one.state.threads → Keeps n threads other.state.threads
    → Keeps n threads (if test then one else other).state.threads
either_kept n threads true one other first second = first
either_kept n threads false one other first second = second

by_objects_kept : (n : ℕ) (row : ObjectState → Outcome) (state : State) → Keeps n state.threads (by_objects row state).state.threads
unfolding by_objects
by_objects_kept n row state =
    then_kept n state.threads _ _ (wake_up_kept n (row state.objects).woken state.threads) (let_pass_kept n 0 (row state.objects).passed _)

thread_exit_kept : (n : ℕ) (state : State) (thread value : ℕ) → n ≢ thread → Keeps n state.threads (thread_exit state thread value).state.threads
unfolding thread_exit
thread_exit_kept n state thread value other =
    then_kept n state.threads _ _ (ended_kept n thread value state.threads other) (let_pass_kept n value (joiners state.threads thread) _)

-- a thread that has a number is made where there are fewer than 256
room_for_one : (threads : List Thread) (number : ℕ) → new_number threads ≡ Some number → length threads < 256
room_for_one threads number is = by_test (nat_lt (length threads) 256) refl is
  where
    by_test : (test : Bool) → nat_lt (length threads) 256 ≡ test → (if test then Some (length threads) else None) ≡ Some number → length threads < 256
    by_test true below made = ltb-true (length threads) 256 below
    by_test false below made = cc

numbered_kept : (n : ℕ) (state : State) (entry argument stack_pointer : ℕ) (number : Option ℕ) → new_number state.threads ≡ number
    → Keeps n state.threads (create_numbered state entry argument stack_pointer number).state.threads
numbered_kept n state entry argument stack_pointer None is = as_it_was n state.threads
numbered_kept n state entry argument stack_pointer (Some number) is =
    let longer = length-append state.threads (started (hart_at entry stack_pointer argument number) ∷ []) in
    let room = room_for_one state.threads number is in
    record { kept = status_of_more has_turn n state.threads _ refl; grows = omega (arith, longer); few = λ few. omega (arith, longer, room) }

create_kept : (n : ℕ) (state : State) (entry argument stack_pointer : ℕ) → Keeps n state.threads (create state entry argument stack_pointer).state.threads
unfolding create
create_kept n state entry argument stack_pointer =
    either_kept n state.threads (entry % 4 == 0) (create_numbered state entry argument stack_pointer (new_number state.threads)) _
    (numbered_kept n state entry argument stack_pointer (new_number state.threads) refl) (as_it_was n state.threads)

write_kept : (n : ℕ) (state : State) (address count : ℕ) → Keeps n state.threads (write state address count).state.threads
unfolding write
write_kept n state address count = search (as_it_was, either_kept)

read_kept : (n : ℕ) (state : State) (address count : ℕ) → Keeps n state.threads (read state address count).state.threads
unfolding read
read_kept n state address count = search (as_it_was, either_kept)

new_pages_kept : (n : ℕ) (state : State) (count : ℕ) → Keeps n state.threads (new_pages state count).state.threads
unfolding new_pages
new_pages_kept n state count = search (as_it_was, either_kept)

release_kept : (n : ℕ) (state : State) (address count : ℕ) → Keeps n state.threads (release state address count).state.threads
unfolding release
release_kept n state address count = search (as_it_was, either_kept)

-- the caller of join is blocked where it waits
waiting_kept : (n : ℕ) (threads : List Thread) (thread : ℕ) (reply : Reply) → n ≢ thread → Keeps n threads (table.after_reply threads thread reply)
waiting_kept n threads thread (Completed code value) other = as_it_was n threads
waiting_kept n threads thread Waits other = status_kept n thread threads Blocked (λ same. absurd (other same))
waiting_kept n threads thread Ends other = as_it_was n threads

join_kept : (n : ℕ) (state : State) (thread number : ℕ) → n ≢ thread → Keeps n state.threads (join state thread number).state.threads
unfolding join
join_kept n state thread number other = waiting_kept n state.threads thread (join_reply state.threads thread number (holds state.objects thread)) other

effect_kept : (n : ℕ) (state : State) (thread : ℕ) (made : Call) → n ≢ thread → Keeps n state.threads (effect state thread made).state.threads
unfolding effect
effect_kept n state thread (call.Exit status) other = as_it_was n state.threads
effect_kept n state thread (call.ThreadExit value) other = thread_exit_kept n state thread value other
effect_kept n state thread (call.Create entry argument stack_pointer) other = create_kept n state entry argument stack_pointer
effect_kept n state thread (call.Join number) other = join_kept n state thread number other
effect_kept n state thread (call.Lock mutex) other = by_objects_kept n _ state
effect_kept n state thread (call.Unlock mutex) other = by_objects_kept n _ state
effect_kept n state thread (call.Wait condition mutex) other = by_objects_kept n _ state
effect_kept n state thread (call.Signal condition) other = by_objects_kept n _ state
effect_kept n state thread (call.Broadcast condition) other = by_objects_kept n _ state
effect_kept n state thread (call.Barrier number count) other = by_objects_kept n _ state
effect_kept n state thread (call.Write address count) other = write_kept n state address count
effect_kept n state thread (call.Read address count) other = read_kept n state address count
effect_kept n state thread (call.Memory count) other = new_pages_kept n state count
effect_kept n state thread call.Sync other = as_it_was n state.threads
effect_kept n state thread (call.Release address count) other = release_kept n state address count
effect_kept n state thread (call.Unknown number) other = as_it_was n state.threads

reply_kept : (n : ℕ) (threads : List Thread) (thread : ℕ) (reply : Reply) → n ≢ thread → Keeps n threads (after_reply threads thread reply)
reply_kept n threads thread (Completed code value) other = changed_kept n thread threads _ (λ same row has. has)
reply_kept n threads thread Waits other = status_kept n thread threads Blocked (λ same. absurd (other same))
reply_kept n threads thread Ends other = as_it_was n threads

settled_kept : (n thread : ℕ) (outcome : Effect) → n ≢ thread → Keeps n outcome.state.threads (settled thread outcome).threads
unfolding settled
settled_kept n thread outcome other = reply_kept n outcome.state.threads thread outcome.reply other

-- a turn

pub after_stop_kept : (n : ℕ) (state : State) (thread : ℕ) (hart : HartState) (stop : Stop) → n ≢ thread → Keeps n state.threads (after_stop state thread hart stop).state.threads
unfolding after_stop
after_stop_kept n state thread hart (stopped.Trap trap) other = as_it_was n state.threads
after_stop_kept n state thread hart stopped.Quantum other = as_it_was n state.threads
after_stop_kept n state thread hart stopped.Ecall other =
    let outcome : Effect = effect state thread (call_of hart) in
    then_kept n state.threads outcome.state.threads _ (effect_kept n state thread (call_of hart) other) (settled_kept n thread outcome other)

committed_kept : (n : ℕ) (state : State) (thread : ℕ) (copy : Memory) (executed : ℕ) (ran : Ran) → Keeps n state.threads (committed state thread copy executed ran).threads
unfolding committed
committed_kept n state thread copy executed ran = changed_kept n thread state.threads _ (λ same row has. has)

run_kept : (n : ℕ) (state base : State) (phase thread number : ℕ) (ran : Ran) → n ≢ thread
    → Keeps n state.threads (run_step state phase thread number base.memory (row_of base thread).executed ran).after.threads
unfolding run_step
run_kept n state base phase thread number ran other =
    then_kept n state.threads (committed state thread base.memory (row_of base thread).executed ran).threads _
    (committed_kept n state thread base.memory (row_of base thread).executed ran)
    (after_stop_kept n (committed state thread base.memory (row_of base thread).executed ran) thread ran.hart ran.stop other)

step_kept : (n : ℕ) (state base : State) (phase number : ℕ) (who : Due) (ran : PrivateRun who) → n ≢ thread_due who → Keeps n state.threads (step_of state base phase number who ran).after.threads
unfolding wake_step
step_kept n state base phase number (due.Fresh thread) ran other = run_kept n state base phase thread number ran other
step_kept n state base phase number (due.Keeper thread) ran other = run_kept n state base phase thread number ran other
step_kept n state base phase number (due.Woken thread mutex) ran other = changed_kept n thread state.threads _ (λ same row has. refl)

-- what a step makes of the threads
made_kept : (setup : Setup) (before : History) (step : Step) (n : ℕ) → Follows setup before step → n ≢ step.turn.thread → Keeps n (present setup before).threads step.after.threads
made_kept setup before step n follows other =
    subst (λ made. Keeps n (present setup before).threads made.after.threads) (sym follows.commit_then_call)
    (step_kept n (present setup before) (version setup before step.turn.base) step.turn.phase step.turn.base follows.who follows.ran
    (λ same. other (same ∙ sym (thread_is setup before step follows))))

-- no thread is lost
pub threads_grow : (setup : Setup) (before : History) (step : Step) → Follows setup before step → length (present setup before).threads ≤ length step.after.threads
threads_grow setup before step follows = (made_kept setup before step (suc step.turn.thread) follows (λ same. omega arith)).grows

-- there are never more than 256 threads
pub few_threads : (setup : Setup) (history : History) → IsLegal setup history → length (present setup history).threads ≤ 256
unfolding IsLegal present first_state
few_threads setup [] legal = omega arith
few_threads setup (step ∷ before) legal = (made_kept setup before step (suc step.turn.thread) legal.0 (λ same. omega arith)).few (few_threads setup before legal.1)

-- a thread that there is has a turn in the last version
abbrev pub HasTurnIn : Setup → History → ℕ → Type 0
HasTurnIn setup history n = HasTurn (present setup history).threads n

pub turn_kept : (setup : Setup) (before : History) (step : Step) (n : ℕ) → Follows setup before step → n ≢ step.turn.thread → HasTurnIn setup before n → HasTurnIn setup (step ∷ before) n
unfolding present
turn_kept setup before step n follows other has =
    let made = made_kept setup before step n follows other in
    let within : n < length (present setup before).threads = has.0 in
    (omega arith, made.kept has.1)
