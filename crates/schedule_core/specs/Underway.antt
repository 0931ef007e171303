-- What holds of a segment that is executed an instruction at a time.
use Rattle.std.specs.Prelude.{◌≡◌, ℕ, ◌<◌, ◌≤◌, ◌^◌, ◌==◌, if◌then◌else◌, Option, Some, None, is_some}
use Rattle.guest_memory.specs.Memory.{Memory}
use Rattle.paged_memory.specs.Snapshot as snapshots
use Rattle.twins.specs.View as views
use Rattle.hart.specs.Segment.{after, stop_after, bound_trap, is_used_up}
use Rattle.hart.specs.HartState.{HartState}
use Rattle.hart.specs.declared.stop.Stop.{Stop}
use Rattle.hart.specs.declared.stop.Stop.TheVariants.{Trap, Ecall, Quantum}
use Rattle.schedule.specs.Verdict.{Verdict, verdict_after}
use Rattle.schedule.specs.declared.job_progress.JobProgress.{JobProgress}
use Rattle.segment.specs.declared.segment.Segment.{Segment}
use Rattle.schedule_core.specs.declared.stepped_segment.SteppedSegment.{SteppedSegment}

-- the memory that it began with
abbrev pub memory_of : SteppedSegment → Memory
memory_of run = snapshots.cells_of (views.base_of run.view)

-- how far it has come
abbrev pub progress_of : SteppedSegment → JobProgress
progress_of run = record { steps = run.steps; stopped = is_some run.stop }

-- what it comes to after its steps so far
abbrev pub verdict_of : SteppedSegment → Verdict
verdict_of run = verdict_after run.work.segment.hart (memory_of run) run.work.segment.left run.work.segment.quantum run.steps

-- the stop by the bound or the quantum after so many steps of a segment
unfoldable pub limit_at : Segment → ℕ → Option Stop
limit_at segment steps = if steps == segment.left then Some (Trap bound_trap) else (if is_used_up segment.quantum steps then Some Quantum else None)

-- where it is said to have stopped, this is its stop
abbrev pub IsItsStop : Option Stop → Option Stop → Type 0
IsItsStop None found = Unit {0}
IsItsStop (Some stop) found = found ≡ Some stop

-- A segment on a memory has come to this hart and these cells after its steps, none of which was a stop, and where it is said to have
-- stopped, that is its stop after them.
pub record HasCome (segment : Segment) (memory : Memory) (hart : HartState) (cells : Memory) (steps : ℕ) (stop : Option Stop) : Type 0 where
  pub reached : after steps segment.hart memory ≡ Some (hart, cells)
  pub running : (k : ℕ) → k < steps → stop_after segment.hart memory segment.left segment.quantum k ≡ None
  pub stops : IsItsStop stop (stop_after segment.hart memory segment.left segment.quantum steps)
  pub within : steps ≤ segment.left
  pub bounded : segment.left < 2 ^ 64
  pub call : stop ≡ Some Ecall → steps < segment.left

-- It stands where its segment has come to.
abbrev pub IsUnderway : SteppedSegment → Type 0
IsUnderway run = HasCome run.work.segment (memory_of run) run.hart (views.cells_of run.view) run.steps run.stop

-- It stands where its segment has come to, and has stopped there.
pub record HasStopped (run : SteppedSegment) (stop : Stop) : Type 0 where
  pub underway : IsUnderway run
  pub stopped : run.stop ≡ Some stop
