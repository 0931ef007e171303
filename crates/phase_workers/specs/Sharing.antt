-- A phase that is shared out, and what the caller has of it.
use Rattle.std.specs.Prelude.{◌≡◌, ◌⊎◌, ℕ, Bool, true, false, Option, Some, None, List, [], ◌∷◌, ◌++◌, length, slice_get}
use Rattle.claim_table.specs.Seat.{SeatState}
use Rattle.paged_memory.specs.Snapshot.{cells_of}
use Rattle.phase_jobs.specs.SharedJobs.{PhaseState}
use Rattle.phase_jobs.specs.Slices.{IsEndOfJob}
use Rattle.segment.specs.declared.segment_end.SegmentEnd.{SegmentEnd}
use Rattle.phase_workers.specs.Hands.{HasStepped}
use Rattle.phase_workers.specs.Posts.{PostState}
use Rattle.phase_workers.specs.declared.hand.Hand.{Hand}
use Rattle.phase_workers.specs.declared.step_outcome.StepOutcome.{StepOutcome}
use Rattle.phase_workers.specs.declared.step_outcome.StepOutcome.TheVariants.{NoneLeft, GoesOn, Over}

-- a phase's number, and its jobs with their names
pub record SharedState : Type 0 where
  pub number : ℕ
  pub names : List ℕ
  pub phase : PhaseState

-- each job has a name, and an end of it is what host threads tell each other of that name
pub record IsShared (is_end_of : ℕ → ℕ → SegmentEnd → Type 0) (number : ℕ) (names : List ℕ) (phase : PhaseState) : Type 0 where
  pub as_many : length names ≡ length phase.jobs
  pub facts : (k name : ℕ) (end : SegmentEnd) → slice_get names k ≡ Some name → IsEndOfJob phase.jobs (cells_of phase.base) k end → is_end_of number name end

-- an offer: a phase, and a seat to draw its jobs by
pub record OfferState : Type 0 where
  pub shared : SharedState
  pub seat : SeatState

-- what the caller has of a phase: its hand, the messages that came, and whether one was lost
pub record DispatchedState : Type 0 where
  pub shared : SharedState
  pub hand : Hand
  pub posts : List PostState
  pub missed : Bool

-- what the caller has of its host threads: whether there may be workers, and the phase that is shared out
pub record DispatcherState : Type 0 where
  pub has_workers : Bool
  pub shared : Option SharedState

-- the phase that is shared out once it was to be, if there may be workers
abbrev pub shared_by : Bool → SharedState → Option SharedState
shared_by false shared = None
shared_by true shared = Some shared

-- a message was kept, or there was no room for it
abbrev pub IsFiled : DispatchedState → DispatchedState → PostState → Type 0
IsFiled old new post = (new ≡ record old { posts = old.posts ++ post ∷ [] }) ⊎ (new ≡ record old { missed = true })

-- messages came, and nothing else happened
pub record KeepsPhase (old new : DispatchedState) : Type 0 where
  pub shared : new.shared ≡ old.shared
  pub hand : new.hand ≡ old.hand
  pub posts : (more : List PostState) × (new.posts ≡ old.posts ++ more)

-- a message came and was kept, or none came
abbrev pub HasWaited : DispatchedState → DispatchedState → Bool → Type 0
HasWaited old new false = new ≡ old
HasWaited old new true = (post : PostState) × IsFiled old new post

-- a message of the job of this name in this phase
abbrev pub IsPostOf : ℕ → ℕ → PostState → Type 0
IsPostOf phase name post = (post.phase ≡ phase) × (post.name ≡ name)

-- what the caller tells itself after a step
abbrev pub IsFiledAfter : DispatchedState → DispatchedState → Bool → StepOutcome → Type 0
IsFiledAfter old new went NoneLeft = (went ≡ false) × (new.posts ≡ old.posts)
IsFiledAfter old new went GoesOn = (went ≡ true) × (new.posts ≡ old.posts)
IsFiledAfter old new went (Over number told) =
    (went ≡ true)
    × ((new.missed ≡ true)
    ⊎ (post : PostState) × (new.posts ≡ old.posts ++ post ∷ []) × (post.told ≡ told) × (post.phase ≡ old.shared.number) × (slice_get old.shared.names number ≡ Some post.name))

-- the caller took a step at the phase, and kept what became of a job that is over
abbrev pub StepsOn : DispatchedState → DispatchedState → Bool → Type 0
StepsOn old new went = (new.shared ≡ old.shared) × (stepped : StepOutcome) × HasStepped old.shared.phase old.hand new.hand stepped × IsFiledAfter old new went stepped
