-- A job that was run.
use Rattle.std.specs.Prelude.{◌≡◌, ℕ, Some, List, slice_get}
use Rattle.guest_memory.specs.Memory.{Memory}
use Rattle.paged_memory.specs.Snapshot.{cells_of}
use Rattle.paged_memory.specs.declared.snapshot.Snapshot.{Snapshot}
use Rattle.segment.specs.Ends.{IsEndOf}
use Rattle.segment.specs.declared.segment.Segment.{Segment}
use Rattle.segment.specs.declared.segment_end.SegmentEnd.{SegmentEnd}

-- a job that was run: its number, what it began with, on which memory, and how it ended there
pub record RanState : Type 0 where
  pub number : ℕ
  pub job : Segment
  pub base : Snapshot
  pub end : SegmentEnd

-- it is this job of these, run on this memory to its end
pub record IsRanOf (jobs : List Segment) (memory : Memory) (number : ℕ) (ran : RanState) : Type 0 where
  pub number_is : ran.number ≡ number
  pub job_is : slice_get jobs number ≡ Some ran.job
  pub memory_is : cells_of ran.base ≡ memory
  pub over : IsEndOf memory ran.job ran.end
