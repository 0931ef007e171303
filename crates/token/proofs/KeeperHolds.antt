-- Who holds a mutex between two turns keeps the token.
use Rattle.std.proofs.Common.{◌≡◌, ℕ, zero, suc, ◌+◌, ◌<◌, Bool, true, false, not, if◌then◌else◌, Option, Some, None, is_some, List, [], ◌∷◌, length, replicate, slice_get, unwrap_or, refl, ap, sym, ◌∙◌, subst}
use Rattle.std.specs.Prelude.{slice_index_or}
use Rattle.std.specs.List.{list_any}
use Rattle.std.proofs.lemmas.Bool.{and_from, or_left, or_right}
use Rattle.abi.specs.Limits as limit
use Rattle.condvar_barrier.specs.Objects.{all_free, holds, holds_mutex, is_held_by}
use Rattle.condvar_barrier.specs.Rows.{take_back}
use Rattle.ecalls.specs.Request.{call_of}
use Rattle.guest_memory.specs.Memory.{Memory}
use Rattle.hart.specs.HartState.{HartState}
use Rattle.hart.specs.declared.stop.Stop.{Stop}
use Rattle.hart.specs.declared.stop.Stop.TheVariants as stopped
use Rattle.thread_table.specs.Status.{is_ready}
use Rattle.thread_table.specs.Thread.{blank}
use Rattle.thread_table.specs.declared.status.Status.TheVariants.{Ready, Woken}
use Rattle.thread_table.specs.declared.thread.Thread.{Thread}
use Rattle.call_table.specs.Effects.{completed}
use Rattle.token.specs.Due.{PrivateRun, thread_due}
use Rattle.token.specs.History.{History, IsHeldByKeeper, keeper_of, keeps, last_outcome, outcome, present, thread_of, version}
use Rattle.token.specs.Legal.{Follows, IsDue, IsLegal, step_of}
use Rattle.token.specs.Outcome.{outcome_of_stop}
use Rattle.call_table.specs.State.{row_of, State, with_thread}
use Rattle.token.specs.Setup.{Setup, first_state}
use Rattle.token.specs.Turns.{Ran, Step, after_stop, committed, run_step, wake_step}
use Rattle.call_table.specs.Waiting.{are_parked}
use Rattle.token.specs.declared.due.Due.{Due}
use Rattle.token.specs.declared.due.Due.TheVariants as due
use Rattle.token.specs.declared.outcome.RunOutcome.{RunOutcome}
use Rattle.token.specs.declared.turn.TurnStop.{TurnStop}
use Rattle.call_table.proofs.Calls.{not_blocked, parked-made, parked-settled, parked-woken, waits_nowhere}
use Rattle.call_table.proofs.Committing.{row_there, with_thread_there}
use Rattle.token.proofs.Dues.{IsTurnOf, keeper_is, keeper_ready, ready_is, thread_is, turn_of_step}
use Rattle.token.proofs.Holders.{OnlyHolder, turn_only}
use Rattle.call_table.proofs.Parked.{slice_get-itself}
use Rattle.token.proofs.ReadyHolder.{ready_settled}
use Rattle.token.proofs.Statuses.{status_at, status_of_others}
use Rattle.token.proofs.TurnThere.{due_present}

-- What a turn of a thread leaves: who waits at an object is blocked there, and the thread is ready where it holds a mutex, unless the
-- turn ends the run.
record Leaves (thread : ℕ) (stop : TurnStop) (after : State) : Type 0 where
  parked : are_parked after.threads after.objects.waiters ≡ true
  ready : outcome_of_stop thread stop ≡ None → holds after.objects thread ≡ true → is_ready (status_at after.threads thread) ≡ true

-- a wake

woken_leaves : (state : State) (phase thread base mutex : ℕ) → thread < length state.threads → (row_of state thread).status ≡ Woken mutex
    → are_parked state.threads state.objects.waiters ≡ true → let step : Step = wake_step state phase thread base mutex in Leaves thread step.turn.stop step.after
unfolding wake_step
woken_leaves state phase thread base mutex there woken parked =
    let found = row_there state.threads thread there in
    let made = with_thread_there state.threads thread found.0 (completed None) found.1 in
    let row = slice_get-itself state.threads thread (completed None found.0) found.0 found.1 in
    record {
      parked = parked-woken state thread mutex (with_thread state.threads thread (completed None)) (take_back state.objects thread mutex) refl refl woken parked;
      ready = λ running held. ap (λ threads. is_ready (status_at threads thread)) made ∙ ap (λ place. is_ready (unwrap_or place blank).status) row;
    }

-- a segment's end

stop_leaves : (state : State) (thread : ℕ) (own : Thread) (hart : HartState) (stop : Stop) → slice_get state.threads thread ≡ Some own → own.hart ≡ hart
    → is_ready (status_at state.threads thread) ≡ true → are_parked state.threads state.objects.waiters ≡ true
    → Leaves thread (after_stop state thread hart stop).stop (after_stop state thread hart stop).state
unfolding after_stop
stop_leaves state thread own hart (stopped.Trap trap) is same ready parked = record { parked = parked; ready = λ running. cc }
stop_leaves state thread own hart stopped.Quantum is same ready parked = record { parked = parked; ready = λ running held. ready }
stop_leaves state thread own hart stopped.Ecall is same ready parked =
    let idle = waits_nowhere state thread (not_blocked (row_of state thread).status ready) parked in
    record {
      parked = rw same at (parked-settled state thread own is idle parked);
      ready = λ running held. ready_settled state thread (call_of hart) ready idle held;
    }

ran_leaves : (state : State) (phase thread base executed : ℕ) (copy : Memory) (ran : Ran) → thread < length state.threads → (row_of state thread).status ≡ Ready
    → are_parked state.threads state.objects.waiters ≡ true
    → let step : Step = run_step state phase thread base copy executed ran in Leaves thread step.turn.stop step.after
unfolding run_step committed
ran_leaves state phase thread base executed copy ran there runs parked =
    let ready : is_ready (status_at state.threads thread) ≡ true = ap is_ready runs in
    let made : Thread → Thread = λ row. record row { hart = ran.hart; executed = executed + ran.count } in
    let found = row_there state.threads thread there in
    let own = ap (λ threads. slice_get threads thread) (with_thread_there state.threads thread found.0 made found.1) ∙ slice_get-itself state.threads thread (made found.0) found.0 found.1 in
    stop_leaves (committed state thread copy executed ran) thread (made found.0) ran.hart ran.stop own refl
    (status_of_others is_ready thread thread state.threads made (λ same row was. was) ready)
    (parked-made state thread made (not_blocked (row_of state thread).status ready) parked)

-- a step

made_leaves : (setup : Setup) (before : History) (base : State) (phase number : ℕ) (who : Due) (ran : PrivateRun who) → IsLegal setup before → IsDue setup before phase who
    → are_parked (present setup before).threads (present setup before).objects.waiters ≡ true
    → let step : Step = step_of (present setup before) base phase number who ran in Leaves (thread_due who) step.turn.stop step.after
made_leaves setup before base phase number (due.Fresh thread) ran legal is parked =
    ran_leaves (present setup before) phase thread number (row_of base thread).executed base.memory ran (due_present setup before phase (due.Fresh thread) legal is) is.2 parked
made_leaves setup before base phase number (due.Keeper thread) ran legal is parked =
    let kept = keeper_is before thread is.0 in
    let ready : (row_of (present setup before) thread).status ≡ Ready =
    subst (λ (n : ℕ). (row_of (present setup before) n).status ≡ Ready) kept.1 (ready_is _ (keeper_ready setup before kept.0)) in
    ran_leaves (present setup before) phase thread number (row_of base thread).executed base.memory ran (due_present setup before phase (due.Keeper thread) legal is) ready parked
made_leaves setup before base phase number (due.Woken thread mutex) ran legal is parked =
    woken_leaves (present setup before) phase thread number mutex (due_present setup before phase (due.Woken thread mutex) legal is) is.2 parked

step_leaves : (setup : Setup) (before : History) (step : Step) → IsLegal setup before → Follows setup before step
    → are_parked (present setup before).threads (present setup before).objects.waiters ≡ true → Leaves step.turn.thread step.turn.stop step.after
step_leaves setup before step legal follows parked =
    subst (λ (thread : ℕ). Leaves thread step.turn.stop step.after) (sym (thread_is setup before step follows))
    (subst (λ (made : Step). Leaves (thread_due follows.who) made.turn.stop made.after) (sym follows.commit_then_call)
    (made_leaves setup before (version setup before step.turn.base) step.turn.phase step.turn.base follows.who follows.ran legal follows.order parked))

-- a history

-- who waits at an object is blocked there, and who holds a mutex keeps the token
record IsKept (setup : Setup) (history : History) : Type 0 where
  parked : are_parked (present setup history).threads (present setup history).objects.waiters ≡ true
  holder : last_outcome history ≡ None → (n : ℕ) → holds (present setup history).objects n ≡ true → (keeps history ≡ true) × (n ≡ thread_of history)

nobody_holds : (thread count : ℕ) → list_any (is_held_by thread) (replicate count None) ≡ false
nobody_holds thread zero = refl
nobody_holds thread (suc count) = nobody_holds thread count

kept_at_start : (setup : Setup) → IsKept setup []
unfolding present first_state all_free holds are_parked
kept_at_start setup = record { parked = refl; holder = λ running n held. let free = nobody_holds n limit.objects in cc }

-- who holds a mutex is the thread whose turn it is
holder_due : (setup : Setup) (before : History) (step : Step) → IsKept setup before → Follows setup before step → OnlyHolder step.turn.thread (present setup before).objects
holder_due setup before step kept follows =
    record {
      only = λ n held.
          let holder = kept.holder follows.cut n held in
          holder.1 ∙ sym (subst (λ (keeper : Bool). IsTurnOf keeper setup before step.turn.phase step.turn.thread) holder.0 (turn_of_step setup before step follows)).1;
    }

kept_after : (setup : Setup) (before : History) (step : Step) → IsLegal setup before → Follows setup before step → IsKept setup before → IsKept setup (step ∷ before)
unfolding present thread_of keeps last_outcome
kept_after setup before step legal follows kept =
    let leaves = step_leaves setup before step legal follows kept.parked in
    record {
      parked = leaves.parked;
      holder = λ running n held.
          let same = (turn_only setup before step follows (holder_due setup before step kept follows)).only n held in
          let own : holds step.after.objects step.turn.thread ≡ true = subst (λ (m : ℕ). holds step.after.objects m ≡ true) same held in
          (and_from _ _ (ap (λ ends. not (is_some ends)) running) (and_from _ _ (leaves.ready running own) own), same);
    }

is_kept : (setup : Setup) (history : History) → IsLegal setup history → IsKept setup history
unfolding IsLegal
is_kept setup [] legal = kept_at_start setup
is_kept setup (step ∷ before) legal = kept_after setup before step legal.1 legal.0 (is_kept setup before legal.1)

-- the law

one_holds : (holders : List (Option ℕ)) (mutex thread : ℕ) → is_held_by thread (slice_index_or holders mutex None) ≡ true → list_any (is_held_by thread) holders ≡ true
one_holds [] mutex thread held = cc
one_holds (holder ∷ holders) zero thread held = or_left (is_held_by thread holder) (list_any (is_held_by thread) holders) held
one_holds (holder ∷ holders) (suc mutex) thread held = or_right (is_held_by thread holder) (list_any (is_held_by thread) holders) (one_holds holders mutex thread held)

running_last : (last : Option RunOutcome) (quiet : Bool) (ends : RunOutcome) → (if is_some last then last else (if quiet then Some ends else None)) ≡ None → last ≡ None
running_last None quiet ends running = refl
running_last (Some outcome) quiet ends running = running

pub holder_keeps : (setup : Setup) (history : History) → IsLegal setup history → outcome setup history ≡ None → IsHeldByKeeper (present setup history).objects (keeper_of history)
unfolding outcome holds_mutex holds
holder_keeps setup history legal going thread mutex held =
    let holder = (is_kept setup history legal).holder (running_last (last_outcome history) _ _ going) thread (one_holds (present setup history).objects.holders mutex thread held) in
    rw holder.0 (ap Some (sym holder.1))

pub none_else_holds : (setup : Setup) (history : History) (step : Step) → IsLegal setup history → Follows setup history step
    → (thread mutex : ℕ) → holds_mutex (present setup history).objects thread mutex ≡ true → thread ≡ step.turn.thread
unfolding holds_mutex holds
none_else_holds setup history step legal follows thread mutex held =
    (holder_due setup history step (is_kept setup history legal) follows).only thread (one_holds (present setup history).objects.holders mutex thread held)

-- where a run stands after a history
pub held_by_keeper : (setup : Setup) (history : History) (state : State) (keeper : Option ℕ) (ended : Option RunOutcome) → IsLegal setup history → present setup history ≡ state
    → keeper_of history ≡ keeper → outcome setup history ≡ ended → ended ≡ None → IsHeldByKeeper state.objects keeper
held_by_keeper setup history state keeper ended legal stands keeps is going thread mutex held =
    sym keeps ∙ holder_keeps setup history legal (is ∙ going) thread mutex (ap (λ (state : State). holds_mutex state.objects thread mutex) stands ∙ held)
