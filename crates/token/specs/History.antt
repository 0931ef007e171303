-- What is said of a history: its versions, its phases with their lists, who keeps the token, and how it ends. A history is the list
-- of its steps, the newest first; version i is the state after its first i turns.
use Rattle.std.specs.Prelude.{◌≡◌, ◌⊎◌, ℕ, suc, Bool, true, false, ◌&&◌, not, ◌==◌, nat_lt, if◌then◌else◌, Option, Some, None, is_some, List, [], ◌∷◌, ◌++◌, length}
use Rattle.thread_table.specs.Status.{is_ready}
use Rattle.thread_table.specs.Threads.{serial_list}
use Rattle.condvar_barrier.specs.Objects.{ObjectState, holds, holds_mutex}
use Rattle.call_table.specs.State.{State, row_of}
use Rattle.token.specs.Change.{Change}
use Rattle.token.specs.Outcome.{outcome_of_stop, quiet_outcome}
use Rattle.token.specs.Setup.{Setup, first_state, list_in}
use Rattle.token.specs.Turns.{Step}
use Rattle.token.specs.declared.outcome.RunOutcome.{RunOutcome}
use Rattle.token.specs.declared.turn.Turn.{Turn}

abbrev pub History : Type 0
History = List Step

-- a history is a prefix of another: that has newer steps before it
abbrev pub IsPrefix : History → History → Type 0
IsPrefix one other = (newer : List Step) × (other ≡ newer ++ one)

-- the turns of a history, the first one first
unfoldable pub turns_of : History → List Turn
turns_of [] = []
turns_of (step ∷ before) = turns_of before ++ step.turn ∷ []

-- the change of a step
abbrev pub change_of : Step → Change
change_of step = record { phase = step.turn.phase; thread = step.turn.thread; addresses = step.changes }

-- the changes of a history, the first one first
unfoldable pub changes_of : History → List Change
changes_of [] = []
changes_of (step ∷ before) = changes_of before ++ change_of step ∷ []

-- the state after the first i turns
unfoldable pub version : Setup → History → ℕ → State
version setup [] i = first_state setup
version setup (step ∷ before) i = if i == suc (length before) then step.after else version setup before i

-- the last version
unfoldable pub present : Setup → History → State
present setup [] = first_state setup
present setup (step ∷ before) = step.after

-- the outcome where the last turn ends the run by itself
unfoldable pub last_outcome : History → Option RunOutcome
last_outcome [] = None
last_outcome (step ∷ before) = outcome_of_stop step.turn.thread step.turn.stop

-- Whether the thread of the last turn keeps the token: the run goes on, and the thread is ready and holds a mutex.
unfoldable pub keeps : History → Bool
keeps [] = false
keeps (step ∷ before) =
    not (is_some (last_outcome (step ∷ before)))
    && (is_ready (row_of step.after step.turn.thread).status && holds step.after.objects step.turn.thread)

-- the phase of the last turn, 1 at the start
unfoldable pub phase_of : History → ℕ
phase_of [] = 1
phase_of (step ∷ before) = step.turn.phase

-- the thread of the last turn
unfoldable pub thread_of : History → ℕ
thread_of [] = 0
thread_of (step ∷ before) = step.turn.thread

-- who keeps the token after a history
abbrev pub keeper_of : History → Option ℕ
keeper_of history = if keeps history then Some (thread_of history) else None

-- Each mutex that is held is held by this keeper.
abbrev pub IsHeldByKeeper : ObjectState → Option ℕ → Type 0
IsHeldByKeeper objects keeper = (thread mutex : ℕ) → holds_mutex objects thread mutex ≡ true → keeper ≡ Some thread

-- the number of the version that a phase begins with: as many turns have earlier phases
unfoldable pub first_version : History → ℕ → ℕ
first_version [] phase = 0
first_version (step ∷ before) phase = if nat_lt step.turn.phase phase then suc (first_version before phase) else first_version before phase

-- the list of a phase, of the threads that are ready or woken in its first version: all of them, ascending, if no number shuffles the phase
unfoldable pub list_of : Setup → History → ℕ → List ℕ
list_of setup history phase = list_in setup phase (version setup history (first_version history phase)).threads

-- the threads that were given the token so far in a phase, in order
unfoldable pub heads : History → ℕ → List ℕ
heads [] phase = []
heads (step ∷ before) phase = if (step.turn.phase == phase) && not (keeps before) then heads before phase ++ step.turn.thread ∷ [] else heads before phase

-- a thread is the next of a phase's list, in the phase of the last turn, or in the one after it where that list is used up
pub record IsNextOfList (setup : Setup) (before : History) (phase : ℕ) (thread : ℕ) : Type 0 where
  pub rest : List ℕ
  pub next : list_of setup before phase ≡ heads before phase ++ thread ∷ rest
  pub current : (phase ≡ phase_of before) ⊎ ((phase ≡ suc (phase_of before)) × (list_of setup before (phase_of before) ≡ heads before (phase_of before)))

-- A phase is the one that the next turn is of: that of the last turn, or the one after it where its list is used up.
abbrev pub IsNextPhase : Setup → History → ℕ → Type 0
IsNextPhase setup history phase =
    (phase ≡ phase_of history)
    ⊎ ((phase ≡ suc (phase_of history)) × (keeps history ≡ false) × (list_of setup history (phase_of history) ≡ heads history (phase_of history)))

-- whether two lists of threads are the same
unfoldable pub same_threads : List ℕ → List ℕ → Bool
same_threads [] [] = true
same_threads [] (thread ∷ rest) = false
same_threads (thread ∷ rest) [] = false
same_threads (one ∷ rest) (other ∷ others) = (one == other) && same_threads rest others

-- Whether no thread is left for a further turn: nobody keeps the token, the phase's list is used up, and the next one would be empty.
unfoldable pub is_quiet : Setup → History → Bool
is_quiet setup history =
    not (keeps history)
    && (same_threads (list_of setup history (phase_of history)) (heads history (phase_of history))
    && same_threads (serial_list (present setup history).threads) [])

-- the outcome of a history that is complete, none where a turn is to follow
unfoldable pub outcome : Setup → History → Option RunOutcome
outcome setup history =
    if is_some (last_outcome history) then last_outcome history
    else (if is_quiet setup history then Some (quiet_outcome (present setup history)) else None)
