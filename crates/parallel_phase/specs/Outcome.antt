-- What became of a job that a seat drew.
use Rattle.std.specs.Prelude.{◌≡◌, ℕ, Bool, false, List}
use Rattle.guest_memory.specs.Memory.{Memory}
use Rattle.claim_table.specs.declared.log.Log.{Log}
use Rattle.schedule.specs.Verdict.{ends_run}
use Rattle.parallel_phase.specs.Ran.{IsRanOf}
use Rattle.claim_table.specs.Seat.{SeatState}
use Rattle.phase_jobs.specs.SharedJobs.{Looks, SawBelow, noted_if}
use Rattle.segment.specs.declared.segment.Segment.{Segment}
use Rattle.parallel_phase.specs.declared.outcome.Outcome.{Outcome}
use Rattle.parallel_phase.specs.declared.outcome.Outcome.TheVariants.{Ran, Skipped}

-- what became of a job: it was run on this memory, or skipped where a lower number was seen
abbrev pub IsOutcome : List Segment → Memory → Log → ℕ → Outcome → Type 0
IsOutcome jobs memory log number (Ran ran) = IsRanOf jobs memory number ran
IsOutcome jobs memory log number Skipped = SawBelow log number

-- whether the run ends by a job that was run
abbrev pub ends : Outcome → Bool
ends (Ran ran) = ends_run ran.end.hart ran.end.stop
ends Skipped = false

-- a seat looked, this became of the job that it drew, and it noted the job if the run ends by it
pub record IsOutcomeAt (jobs : List Segment) (memory : Memory) (number : ℕ) (old new : SeatState) (outcome : Outcome) : Type 0 where
  pub looked : SeatState
  pub looks : Looks old looked
  pub noted : new ≡ record looked { log = noted_if (ends outcome) looked.log number }
  pub is : IsOutcome jobs memory looked.log number outcome
