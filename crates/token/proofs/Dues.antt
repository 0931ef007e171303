-- Who is due: the thread of a step, and whether it keeps the token.
use Rattle.std.proofs.Common.{◌≡◌, ℕ, Bool, true, false, not, ◌&&◌, Some, None, is_some, if◌then◌else◌, [], ◌∷◌, refl, ap, sym, ◌∙◌, subst}
use Rattle.std.proofs.lemmas.Bool.{and_parts}
use Rattle.call_table.specs.State.{State, row_of}
use Rattle.condvar_barrier.specs.Objects.{holds}
use Rattle.thread_table.specs.Status.{has_turn, is_ready}
use Rattle.thread_table.specs.declared.status.Status.{Status}
use Rattle.thread_table.specs.declared.status.Status.TheVariants.{Ready, Woken, Blocked, Done}
use Rattle.token.specs.Due.{PrivateRun, thread_due}
use Rattle.token.specs.History.{History, IsNextOfList, keeper_of, keeps, last_outcome, phase_of, present, thread_of, version}
use Rattle.token.specs.Legal.{Follows, IsDue, step_of}
use Rattle.token.specs.Setup.{Setup}
use Rattle.token.specs.Turns.{Step, run_step, wake_step}
use Rattle.token.specs.declared.due.Due.{Due}
use Rattle.token.specs.declared.due.Due.TheVariants as due

-- the keeper

kept_if : (keeps : Bool) (thread keeper : ℕ) → (if keeps then Some thread else None) ≡ Some keeper → (keeps ≡ true) × (thread ≡ keeper)
kept_if true thread keeper is = (refl, cc)
kept_if false thread keeper is = cc

free_if : (keeps : Bool) (thread : ℕ) → (if keeps then Some thread else None) ≡ None → keeps ≡ false
free_if true thread is = cc
free_if false thread is = refl

pub keeper_is : (history : History) (keeper : ℕ) → keeper_of history ≡ Some keeper → (keeps history ≡ true) × (thread_of history ≡ keeper)
keeper_is history keeper is = kept_if (keeps history) (thread_of history) keeper is

pub no_keeper : (history : History) → keeper_of history ≡ None → keeps history ≡ false
no_keeper history is = free_if (keeps history) (thread_of history) is

pub keeper_from : (history : History) → keeps history ≡ true → keeper_of history ≡ Some (thread_of history)
keeper_from history is = ap (λ (keeper : Bool). if keeper then Some (thread_of history) else None) is

pub none_from : (history : History) → keeps history ≡ false → keeper_of history ≡ None
none_from history is = ap (λ (keeper : Bool). if keeper then Some (thread_of history) else None) is

-- a keeper is ready
pub keeper_ready : (setup : Setup) (history : History) → keeps history ≡ true → is_ready (row_of (present setup history) (thread_of history)).status ≡ true
unfolding keeps thread_of present
keeper_ready setup [] keeper = cc
keeper_ready setup (step ∷ before) keeper =
    let status : Status = (row_of step.after step.turn.thread).status in
    let parts = and_parts (not (is_some (last_outcome (step ∷ before)))) (is_ready status && holds step.after.objects step.turn.thread) keeper in
    (and_parts (is_ready status) (holds step.after.objects step.turn.thread) parts.1).0

pub ready_is : (status : Status) → is_ready status ≡ true → status ≡ Ready
ready_is Ready ready = refl
ready_is (Woken mutex) ready = cc
ready_is Blocked ready = cc
ready_is (Done value) ready = cc

-- who is due is ready, or woken
pub due_status : (setup : Setup) (before : History) (phase : ℕ) (who : Due) → IsDue setup before phase who → has_turn (row_of (present setup before) (thread_due who)).status ≡ true
due_status setup before phase (due.Fresh thread) is = ap has_turn is.2
due_status setup before phase (due.Woken thread mutex) is = ap has_turn is.2
due_status setup before phase (due.Keeper thread) is =
    let kept = keeper_is before thread is.0 in
    subst (λ (n : ℕ). has_turn (row_of (present setup before) n).status ≡ true) kept.1
    (ap has_turn (ready_is (row_of (present setup before) (thread_of before)).status (keeper_ready setup before kept.0)))

-- whose turn it is, by whether the token is kept: the thread of the last turn, or the next of a list
abbrev pub IsTurnOf : Bool → Setup → History → ℕ → ℕ → Type 0
IsTurnOf true setup before phase thread = (phase ≡ phase_of before) × (thread ≡ thread_of before)
IsTurnOf false setup before phase thread = IsNextOfList setup before phase thread

pub turn_of_due : (setup : Setup) (before : History) (phase : ℕ) (who : Due) → IsDue setup before phase who → IsTurnOf (keeps before) setup before phase (thread_due who)
turn_of_due setup before phase (due.Fresh thread) is = subst (λ keeper. IsTurnOf keeper setup before phase thread) (sym (no_keeper before is.0)) is.1
turn_of_due setup before phase (due.Woken thread mutex) is = subst (λ keeper. IsTurnOf keeper setup before phase thread) (sym (no_keeper before is.0)) is.1
turn_of_due setup before phase (due.Keeper thread) is =
    let kept = keeper_is before thread is.0 in
    subst (λ keeper. IsTurnOf keeper setup before phase thread) (sym kept.0) (is.1, sym kept.1)

-- the thread of a step is who is due
pub thread_made : (state base : State) (phase number : ℕ) (who : Due) (ran : PrivateRun who) → (step_of state base phase number who ran).turn.thread ≡ thread_due who
unfolding run_step wake_step
thread_made state base phase number (due.Fresh thread) ran = refl
thread_made state base phase number (due.Keeper thread) ran = refl
thread_made state base phase number (due.Woken thread mutex) ran = refl

pub thread_is : (setup : Setup) (before : History) (step : Step) → (follows : Follows setup before step) → step.turn.thread ≡ thread_due follows.who
thread_is setup before step follows =
    ap (λ (made : Step). made.turn.thread) follows.commit_then_call ∙ thread_made (present setup before) (version setup before step.turn.base) step.turn.phase step.turn.base follows.who follows.ran

pub turn_of_step : (setup : Setup) (before : History) (step : Step) → Follows setup before step → IsTurnOf (keeps before) setup before step.turn.phase step.turn.thread
turn_of_step setup before step follows =
    subst (λ (n : ℕ). IsTurnOf (keeps before) setup before step.turn.phase n) (sym (thread_is setup before step follows))
    (turn_of_due setup before step.turn.phase follows.who follows.order)
