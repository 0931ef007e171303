use Rattle.std.proofs.Common.{ℕ, ◌-◌, Option, Some, None}
use Rattle.paged_memory.specs.Snapshot.{cells_of}
use Rattle.phase_jobs.specs.Slices.{IsSlice}
use Rattle.segment.specs.declared.progress.Progress.{Progress}
use Rattle.segment.specs.declared.progress.Progress.TheVariants.{GoesOn, Over}
use Rattle.parallel_phase.proofs.parallel_phase.run.Given as goal

abbrev left_by : Option Progress → ℕ
left_by None = 0
left_by (Some (GoesOn job)) = job.segment.left - job.done
left_by (Some (Over end)) = 0

abbrev pub invariant-loop-slice : goal.invariant-loop-slice
invariant-loop-slice l = IsSlice l.shared.jobs (cells_of l.shared.base) l.number 0 l.fn.seat l.seat l.slice

abbrev pub decreases-loop-slice : goal.decreases-loop-slice
decreases-loop-slice l = left_by l.slice
