-- What a seat of a phase does with the jobs that it draws.
use Rattle.std.specs.Prelude.{◌≡◌, ℕ, ◌<◌, ◌≤◌, Bool, true, false, if◌then◌else◌, List, [], ◌∷◌, ◌++◌, map, length, All, slice_get, Some}
use Rattle.guest_memory.specs.Memory.{Memory}
use Rattle.paged_memory.specs.Snapshot.{cells_of}
use Rattle.claim_table.specs.declared.log.Log.{Log}
use Rattle.claim_table.specs.Logs.{times, with_drawn}
use Rattle.claim_table.specs.Seat.{SeatState}
use Rattle.parallel_phase.specs.Ran.{IsRanOf}
use Rattle.parallel_phase.specs.Outcome.{IsOutcome, ends}
use Rattle.phase_jobs.specs.SharedJobs.{Looks, PhaseState, SawBelow}
use Rattle.segment.specs.declared.segment.Segment.{Segment}
use Rattle.parallel_phase.specs.declared.drawn.Drawn.{Drawn}
use Rattle.parallel_phase.specs.declared.outcome.Outcome.{Outcome}
use Rattle.parallel_phase.specs.declared.outcome.Outcome.TheVariants.{Ran, Skipped}

-- a seat of this phase drew this job of it
pub record HasDrawn (phase : PhaseState) (number : ℕ) (seat : SeatState) : Type 0 where
  pub row : seat.row ≡ phase.row
  pub job : number < length phase.jobs
  pub drawn : 0 < times number seat.log.drawn

-- a seat drew a job, this became of it, and it was noted where the run ends by it
pub record Works (jobs : List Segment) (memory : Memory) (old new : SeatState) (drawn : Drawn) : Type 0 where
  pub row : new.row ≡ old.row
  pub number : new.number ≡ old.number
  pub drawn_is : new.log.drawn ≡ old.log.drawn ++ drawn.number ∷ []
  pub noted : new.log.noted ≡ (if ends drawn.outcome then old.log.noted ++ drawn.number ∷ [] else old.log.noted)
  pub ended : new.log.ended ≡ old.log.ended
  pub seen : (number : ℕ) → 0 < times number old.log.seen → 0 < times number new.log.seen
  pub outcome : IsOutcome jobs memory new.log drawn.number drawn.outcome
  pub room : length new.log.drawn ≤ length jobs

-- a seat drew one of these jobs, and then did nothing but look
pub record OnlyDraws (jobs : List Segment) (old new : SeatState) : Type 0 where
  pub number : ℕ
  pub inside : number < length jobs
  pub looks : Looks (record old { log = with_drawn old.log number }) new

-- what became of a drawn job fits what the seat did: a job that was run has this number, and a skip is above a number seen
abbrev pub FitsNumber : Log → ℕ → Outcome → Type 0
FitsNumber log number (Ran ran) = ran.number ≡ number
FitsNumber log number Skipped = SawBelow log number

abbrev pub Fits : Log → Drawn → Type 0
Fits log drawn = FitsNumber log drawn.number drawn.outcome

-- one of them is this number, run, and the run ends by it
abbrev pub HasEnd : List Drawn → ℕ → Type 0
HasEnd outcomes number = (place : ℕ) × (drawn : Drawn) × (slice_get outcomes place ≡ Some drawn) × (drawn.number ≡ number) × (ends drawn.outcome ≡ true)

-- What became of the jobs that a seat drew: each number drawn has one outcome, in order, and a number noted is a job that was run
-- and ends the run.
pub record AreOutcomes (log : Log) (outcomes : List Drawn) : Type 0 where
  pub numbers : map (λ drawn. drawn.number) outcomes ≡ log.drawn
  pub each : All (Fits log) outcomes
  pub noted : (number : ℕ) → 0 < times number log.noted → HasEnd outcomes number

-- a job that was run is one of these, run on this memory
abbrev pub IsOver : List Segment → Memory → Outcome → Type 0
IsOver jobs memory (Ran ran) = IsRanOf jobs memory ran.number ran
IsOver jobs memory Skipped = Unit {0}

abbrev pub AreOver : List Segment → Memory → List Drawn → Type 0
AreOver jobs memory outcomes = All (λ drawn. IsOver jobs memory drawn.outcome) outcomes

-- the work of a seat: what it did, what became of its jobs, and whether memory was refused
pub record WorkState : Type 0 where
  pub seat : SeatState
  pub outcomes : List Drawn
  pub refused : Bool

-- the work of a seat of this phase that was done until no job was left or memory was refused
pub record IsWorkOf (phase : PhaseState) (work : WorkState) : Type 0 where
  pub row : work.seat.row ≡ phase.row
  pub over : AreOver phase.jobs (cells_of phase.base) work.outcomes
  pub ended : work.refused ≡ false → 0 < work.seat.log.ended

-- the work of a seat of this phase that has drawn nothing
pub record IsUnbegun (phase : PhaseState) (work : WorkState) : Type 0 where
  pub row : work.seat.row ≡ phase.row
  pub refused : work.refused ≡ false
  pub outcomes : work.outcomes ≡ []
