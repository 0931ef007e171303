-- What becomes of the jobs of a phase.
use Rattle.std.specs.Prelude.{◌≡◌, ℕ, ◌<◌, true, false, Some, List, [], ◌∷◌, length, slice_get, slice_set}
use Rattle.guest_memory.specs.Memory.{Memory}
use Rattle.segment.specs.declared.segment.Segment.{Segment}
use Rattle.parallel_phase.specs.declared.drawn.Drawn.{Drawn}
use Rattle.parallel_phase.specs.declared.outcome.Outcome.{Outcome}
use Rattle.parallel_phase.specs.declared.outcome.Outcome.TheVariants.{Ran, Skipped}
use Rattle.parallel_phase.specs.Ran.{IsRanOf}
use Rattle.parallel_phase.specs.Outcome.{ends}
use Rattle.parallel_phase.specs.Work.{WorkState, AreOutcomes}

-- a job below this number was run, and the run ends by it
abbrev pub EndsBelow : List Outcome → ℕ → Type 0
EndsBelow outcomes number = (below : ℕ) × (outcome : Outcome) × (below < number) × (slice_get outcomes below ≡ Some outcome) × (ends outcome ≡ true)

-- what became of a job of a phase: it was run on the phase's memory, or skipped where a lower one ends the run
abbrev pub IsFate : List Segment → Memory → List Outcome → ℕ → Outcome → Type 0
IsFate jobs memory outcomes number (Ran ran) = IsRanOf jobs memory number ran
IsFate jobs memory outcomes number Skipped = EndsBelow outcomes number

-- these are the outcomes of a phase: one for each job, in the order of the jobs
pub record AreFates (jobs : List Segment) (memory : Memory) (outcomes : List Outcome) : Type 0 where
  pub long : length outcomes ≡ length jobs
  pub each : (number : ℕ) (outcome : Outcome) → slice_get outcomes number ≡ Some outcome → IsFate jobs memory outcomes number outcome

-- no memory was refused to a seat, so each job that it drew has an outcome
pub record IsWhole (work : WorkState) : Type 0 where
  pub refused : work.refused ≡ false
  pub are : AreOutcomes work.seat.log work.outcomes

-- the outcomes after those of some drawn jobs were put into their places
abbrev pub filed : List Outcome → List Drawn → List Outcome
filed outcomes [] = outcomes
filed outcomes (drawn ∷ rest) = filed (slice_set outcomes drawn.number drawn.outcome) rest
