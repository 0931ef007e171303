-- Which histories are those of a run: five clauses say which step may follow a history.
use Rattle.std.specs.Prelude.{◌≡◌, ℕ, ◌-◌, Option, Some, None, [], ◌∷◌, length}
use Rattle.hart.specs.Segment.{Segment}
use Rattle.thread_table.specs.declared.status.Status.TheVariants.{Ready, Woken}
use Rattle.call_table.specs.State.{State, row_of}
use Rattle.token.specs.Due.{PrivateRun}
use Rattle.token.specs.History.{History, IsNextOfList, first_version, keeper_of, last_outcome, phase_of, present, version}
use Rattle.token.specs.Setup.{Setup, quantum_in}
use Rattle.token.specs.Turns.{Ran, Step, run_step, wake_step}
use Rattle.token.specs.declared.due.Due.{Due}
use Rattle.token.specs.declared.due.Due.TheVariants as due

-- A thread that is ready and holds a mutex after its turn keeps the token; else it is the turn of the next of the phase's list.
abbrev pub IsDue : Setup → History → ℕ → Due → Type 0
IsDue setup before phase (due.Fresh thread) = (keeper_of before ≡ None) × IsNextOfList setup before phase thread × ((row_of (present setup before) thread).status ≡ Ready)
IsDue setup before phase (due.Keeper thread) = (keeper_of before ≡ Some thread) × (phase ≡ phase_of before)
IsDue setup before phase (due.Woken thread mutex) = (keeper_of before ≡ None) × IsNextOfList setup before phase thread × ((row_of (present setup before) thread).status ≡ Woken mutex)

-- A fresh segment's base is the phase's first version; a keeper's and a wake's is the last one.
abbrev pub base_of : History → ℕ → Due → ℕ
base_of before phase (due.Fresh thread) = first_version before phase
base_of before phase (due.Keeper thread) = length before
base_of before phase (due.Woken thread mutex) = length before

-- a thread's segment on a whole copy of its base, with the hart and the count that it has there
abbrev pub IsSegmentFrom : Setup → State → ℕ → Option ℕ → Ran → Type 0
IsSegmentFrom setup base thread quantum ran =
    Segment (row_of base thread).hart base.memory (setup.bound - (row_of base thread).executed) quantum ran.stop ran.count ran.hart ran.memory

-- A fresh segment has the quantum of its thread in the phase, and a keeper's has none. A woken thread runs nothing.
abbrev pub RunsPrivately : Setup → State → (phase : ℕ) → (who : Due) → PrivateRun who → Type 0
RunsPrivately setup base phase (due.Fresh thread) ran = IsSegmentFrom setup base thread (quantum_in setup phase thread base.threads) ran
RunsPrivately setup base phase (due.Keeper thread) ran = IsSegmentFrom setup base thread None ran
RunsPrivately setup base phase (due.Woken thread mutex) ran = Unit {0}

-- The bytes that differ from the copy are written back, and the call's effect follows. A woken thread takes its mutex.
abbrev pub step_of : State → State → ℕ → ℕ → (who : Due) → PrivateRun who → Step
step_of state base phase number (due.Fresh thread) ran = run_step state phase thread number base.memory (row_of base thread).executed ran
step_of state base phase number (due.Keeper thread) ran = run_step state phase thread number base.memory (row_of base thread).executed ran
step_of state base phase number (due.Woken thread mutex) ran = wake_step state phase thread number mutex

-- A step may follow a history.
pub record Follows (setup : Setup) (before : History) (step : Step) : Type 0 where
  pub who : Due
  pub ran : PrivateRun who
  -- order
  pub order : IsDue setup before step.turn.phase who
  -- base
  pub base : step.turn.base ≡ base_of before step.turn.phase who
  -- private memory
  pub private_memory : RunsPrivately setup (version setup before step.turn.base) step.turn.phase who ran
  -- commit, then call
  pub commit_then_call : step ≡ step_of (present setup before) (version setup before step.turn.base) step.turn.phase step.turn.base who ran
  -- cut: nothing follows a trap or an exit
  pub cut : last_outcome before ≡ None

-- a history is legal where each step may follow those before it
unfoldable pub IsLegal : Setup → History → Type 0
IsLegal setup [] = Unit {0}
IsLegal setup (step ∷ before) = Follows setup before step × IsLegal setup before
