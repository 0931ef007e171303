-- What a host thread has of a phase, and what its steps come to.
use Rattle.std.specs.Prelude.{◌≡◌, ℕ, ◌<◌, Option, Some, None, Result, Ok, Err, IfSome, IsSome, [], ◌∷◌, ◌++◌, length}
use Rattle.claim_table.specs.Logs.{times, with_end}
use Rattle.claim_table.specs.Seat.{SeatState}
use Rattle.paged_memory.specs.Snapshot.{cells_of}
use Rattle.phase_jobs.specs.SharedJobs.{PhaseState, SawBelow}
use Rattle.phase_jobs.specs.Slices.{IsEndOfJob, IsGoing}
use Rattle.segment.specs.declared.progress.Progress.{Progress}
use Rattle.segment.specs.declared.progress.Progress.TheVariants as progress
use Rattle.phase_workers.specs.declared.hand.Hand.{Hand}
use Rattle.phase_workers.specs.declared.drawn_job.DrawnJob.{DrawnJob}
use Rattle.phase_workers.specs.declared.step_outcome.StepOutcome.{StepOutcome}
use Rattle.phase_workers.specs.declared.step_outcome.StepOutcome.TheVariants.{NoneLeft, GoesOn, Over}
use Rattle.phase_workers.specs.declared.job_outcome.JobOutcome.{JobOutcome}
use Rattle.phase_workers.specs.declared.job_outcome.JobOutcome.TheVariants.{Ended, Skipped, Refused}

-- a job of this phase that this seat drew, and that goes on
pub record IsHeld (phase : PhaseState) (seat : SeatState) (held : DrawnJob) : Type 0 where
  pub job : IsGoing phase.jobs (cells_of phase.base) held.number held.job
  pub drawn : 0 < times held.number seat.log.drawn

-- what a host thread has of a phase: a seat of it, and maybe a job that it drew
pub record Has (phase : PhaseState) (hand : Hand) : Type 0 where
  pub row : hand.seat.row ≡ phase.row
  pub held : IfSome hand.held (IsHeld phase hand.seat)

-- what is told of a job: its end, or that it has none at this host thread
abbrev pub IsTold : PhaseState → ℕ → JobOutcome → Type 0
IsTold phase number (Ended end) = IsEndOfJob phase.jobs (cells_of phase.base) number end
IsTold phase number Skipped = Unit {0}
IsTold phase number Refused = Unit {0}

-- it was skipped only if a lower number was seen
abbrev pub IsSkippedBy : SeatState → ℕ → JobOutcome → Type 0
IsSkippedBy seat number (Ended end) = Unit {0}
IsSkippedBy seat number Skipped = SawBelow seat.log number
IsSkippedBy seat number Refused = Unit {0}

-- the job of a step is the one that was held, or else one that was drawn
abbrev pub IsJobOfStep : Option DrawnJob → (old new : SeatState) → ℕ → Type 0
IsJobOfStep None old new number = new.log.drawn ≡ old.log.drawn ++ number ∷ []
IsJobOfStep (Some held) old new number = (number ≡ held.number) × (new.log.drawn ≡ old.log.drawn)

-- what a slice of a job leaves in the hand, and what is told of the job then
abbrev pub IsKept : {E : Type 0} → (old new : Hand) → ℕ → Result (Option Progress) E → StepOutcome → Type 0
IsKept old new number (Ok (Some (progress.GoesOn job))) stepped = (new ≡ record old { held = Some (record { number = number; job = job }) }) × (stepped ≡ GoesOn)
IsKept old new number (Ok (Some (progress.Over end))) stepped = (new ≡ old) × (stepped ≡ Over number (Ended end))
IsKept old new number (Ok None) stepped = (new ≡ old) × (stepped ≡ Over number Skipped)
IsKept old new number (Err error) stepped = (new ≡ old) × (stepped ≡ Over number Refused)

-- the job of a step is over
pub record IsOverBy (phase : PhaseState) (old new : Hand) (number : ℕ) (told : JobOutcome) : Type 0 where
  pub inside : number < length phase.jobs
  pub job : IsJobOfStep old.held old.seat new.seat number
  pub free : new.held ≡ None
  pub told_is : IsTold phase number told
  pub skipped : IsSkippedBy new.seat number told

-- what a step of a host thread at a phase came to
abbrev pub HasStepped : PhaseState → (old new : Hand) → StepOutcome → Type 0
HasStepped phase old new NoneLeft = (old.held ≡ None) × (new ≡ record { seat = record old.seat { log = with_end old.seat.log }; held = None })
HasStepped phase old new GoesOn = IsSome new.held × IfSome new.held (λ held. IsJobOfStep old.held old.seat new.seat held.number)
HasStepped phase old new (Over number told) = IsOverBy phase old new number told
