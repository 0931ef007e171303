-- What host threads tell each other of the jobs of a phase.
use Rattle.std.specs.Prelude.{ℕ, Option, Some, None}
use Rattle.segment.specs.declared.segment_end.SegmentEnd.{SegmentEnd}
use Rattle.phase_workers.specs.declared.job_outcome.JobOutcome.{JobOutcome}
use Rattle.phase_workers.specs.declared.job_outcome.JobOutcome.TheVariants.{Ended, Skipped, Refused}

-- a message: the phase's number, a job's name there, and what became of the job
pub record PostState : Type 0 where
  pub phase : ℕ
  pub name : ℕ
  pub told : JobOutcome

-- the end that is told is the job's
abbrev pub IsPost : (ℕ → ℕ → SegmentEnd → Type 0) → ℕ → ℕ → JobOutcome → Type 0
IsPost is_end_of phase name (Ended end) = is_end_of phase name end
IsPost is_end_of phase name Skipped = Unit {0}
IsPost is_end_of phase name Refused = Unit {0}

-- the end that is told, if one is
abbrev pub end_told : JobOutcome → Option SegmentEnd
end_told (Ended end) = Some end
end_told Skipped = None
end_told Refused = None
