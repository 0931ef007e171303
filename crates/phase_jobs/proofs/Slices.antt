-- What a slice of a job that a seat drew came to.
use Rattle.std.proofs.Common.{◌≡◌, ◌∙◌, ◌<◌, ℕ, Some, List, sym, ap, subst}
use Rattle.std.specs.Prelude.{slice_get}
use Rattle.guest_memory.specs.Memory.{Memory}
use Rattle.claim_table.specs.Seat.{SeatState}
use Rattle.segment.specs.Progress.{IsProgress}
use Rattle.segment.specs.declared.progress.Progress.{Progress}
use Rattle.segment.specs.declared.progress.Progress.TheVariants.{GoesOn, Over}
use Rattle.segment.specs.declared.segment.Segment.{Segment}
use Rattle.phase_jobs.specs.SharedJobs.{Looks, SawBelow}
use Rattle.phase_jobs.specs.Slices.{IsSlice, noted_by}

-- a seat looked, a slice was executed, and it noted the job if it was to
pub slice_is : (jobs : List Segment) (memory : Memory) (number done : ℕ) (job : Segment) (p : Progress) (old looked new : SeatState)
    → slice_get jobs number ≡ Some job → IsProgress memory job done p → Looks old looked → ¬ SawBelow looked.log number → new ≡ noted_by p looked number
    → IsSlice jobs memory number done old new (Some p)
slice_is jobs memory number done job (GoesOn further) old looked new at is looks wanted by = (
  subst (λ (s : SeatState). Looks old s) (sym by) looks,
  record { job_is = at ∙ ap Some (sym is.0); memory_is = is.1; going = subst (λ (j : Segment). further.done < j.left) (sym is.0) is.3 },
  is.2,
  subst (λ (s : SeatState). ¬ SawBelow s.log number) (sym by) wanted,
)
slice_is jobs memory number done job (Over end) old looked new at is looks wanted by =
    record { looked = looked; looks = looks; wanted = wanted; noted = by; is = record { job = job; job_is = at; is = is } }
