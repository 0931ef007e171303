-- What a seat makes of a job that it drew, slice by slice.
use Rattle.std.specs.Prelude.{◌≡◌, ℕ, ◌<◌, Option, Some, None, List, slice_get}
use Rattle.guest_memory.specs.Memory.{Memory}
use Rattle.claim_table.specs.Seat.{SeatState}
use Rattle.paged_memory.specs.Snapshot.{cells_of}
use Rattle.schedule.specs.Verdict.{ends_run}
use Rattle.segment.specs.Ends.{IsEndOf}
use Rattle.segment.specs.Stands.{UnderwayState}
use Rattle.segment.specs.declared.progress.Progress.{Progress}
use Rattle.segment.specs.declared.progress.Progress.TheVariants.{GoesOn, Over}
use Rattle.segment.specs.declared.segment.Segment.{Segment}
use Rattle.segment.specs.declared.segment_end.SegmentEnd.{SegmentEnd}
use Rattle.phase_jobs.specs.SharedJobs.{Looks, SawBelow, noted_if}

-- it is this job of these, on this memory, and has more to execute
pub record IsGoing (jobs : List Segment) (memory : Memory) (number : ℕ) (job : UnderwayState) : Type 0 where
  pub job_is : slice_get jobs number ≡ Some job.segment
  pub memory_is : cells_of job.base ≡ memory
  pub going : job.done < job.segment.left

-- it is the end of this job of these, on this memory
pub record IsEndOfJob (jobs : List Segment) (memory : Memory) (number : ℕ) (end : SegmentEnd) : Type 0 where
  pub job : Segment
  pub job_is : slice_get jobs number ≡ Some job
  pub is : IsEndOf memory job end

-- a seat looked and saw no lower number, its job ended so, and it noted the job if the run ends by it
pub record IsOverAt (jobs : List Segment) (memory : Memory) (number : ℕ) (old new : SeatState) (end : SegmentEnd) : Type 0 where
  pub looked : SeatState
  pub looks : Looks old looked
  pub wanted : ¬ SawBelow looked.log number
  pub noted : new ≡ record looked { log = noted_if (ends_run end.hart end.stop) looked.log number }
  pub is : IsEndOfJob jobs memory number end

-- After a slice of a job of which so much was done it is further on, or over. There was no slice if a lower number was seen just before.
abbrev pub IsSlice : List Segment → Memory → ℕ → ℕ → SeatState → SeatState → Option Progress → Type 0
IsSlice jobs memory number done old new None = Looks old new × SawBelow new.log number
IsSlice jobs memory number done old new (Some (GoesOn job)) = Looks old new × IsGoing jobs memory number job × (done < job.done) × ¬ SawBelow new.log number
IsSlice jobs memory number done old new (Some (Over end)) = IsOverAt jobs memory number old new end

-- where a job's slice has led
abbrev pub IsProgressOf : List Segment → Memory → ℕ → Progress → Type 0
IsProgressOf jobs memory number (GoesOn job) = IsGoing jobs memory number job
IsProgressOf jobs memory number (Over end) = IsEndOfJob jobs memory number end

-- the note that a seat makes of a job that stands so
abbrev pub noted_by : Progress → SeatState → ℕ → SeatState
noted_by (GoesOn job) seat number = seat
noted_by (Over end) seat number = record seat { log = noted_if (ends_run end.hart end.stop) seat.log number }
