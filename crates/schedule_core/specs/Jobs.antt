-- The jobs of a phase.
use Rattle.std.specs.Prelude.{ℕ, ◌==◌, Option, List, position, slice_index}
use Rattle.guest_memory.specs.Memory.{Memory}
use Rattle.schedule.specs.Phase.{Verdicts}
use Rattle.schedule.specs.Verdict.{Verdict, verdict_after}
use Rattle.thread_table.specs.declared.thread.Thread.{Thread}
use Rattle.token.specs.Point.{Point}
use Rattle.token.specs.Segments as segments
use Rattle.token.specs.Setup.{Setup}
use Rattle.token.specs.declared.need.Work.{Work}

-- what a phase begins with: what the run was given, the phase's number, the memory and the threads of its first version, and its list
pub record Start : Type 0 where
  pub setup : Setup
  pub phase : ℕ
  pub memory : Memory
  pub threads : List Thread
  pub list : List ℕ

-- what the present phase began with
abbrev pub start_of : Point → Start
start_of point = record { setup = point.setup; phase = point.phase; memory = point.base; threads = point.base_threads; list = point.list }

-- the threads of the phase's jobs: job j is that of the j-th thread of the list that is ready where the phase begins
unfoldable pub jobs_of : Start → List ℕ
jobs_of start = segments.jobs_of start.threads start.list

-- the segment of a thread in this phase
unfoldable pub work_of : Start → ℕ → Work
work_of start thread = record { thread = thread; segment = segments.segment_in start.setup start.phase start.threads thread }

-- the segment of a job
unfoldable pub work_at : Start → ℕ → Work
work_at start job = work_of start (slice_index (jobs_of start) job)

-- what a thread's segment on a memory comes to after so many steps
abbrev pub verdict_by : Memory → Work → ℕ → Verdict
verdict_by memory work steps = verdict_after work.segment.hart memory work.segment.left work.segment.quantum steps

-- what each job comes to after so many steps
unfoldable pub verdicts_of : Start → Verdicts
verdicts_of start job steps = verdict_by start.memory (work_at start job) steps

-- the job of a thread
unfoldable pub job_of : Start → ℕ → Option ℕ
job_of start thread = position (λ number. number == thread) (jobs_of start)
