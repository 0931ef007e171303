-- A job that a seat drew, slice after slice to its end.
use Rattle.std.proofs.Common.{◌≡◌, ◌<◌, ◌≤◌, ℕ, Option, Some, None, List, length, subst, arith}
use Rattle.guest_memory.specs.Memory.{Memory}
use Rattle.claim_table.specs.Logs.{with_drawn}
use Rattle.claim_table.specs.Seat.{SeatState}
use Rattle.phase_jobs.specs.SharedJobs.{Looks}
use Rattle.phase_jobs.specs.Slices.{IsSlice}
use Rattle.phase_jobs.proofs.Runs.{looks_again}
use Rattle.segment.specs.declared.progress.Progress.{Progress}
use Rattle.segment.specs.declared.progress.Progress.TheVariants.{GoesOn, Over}
use Rattle.segment.specs.declared.segment.Segment.{Segment}
use Rattle.parallel_phase.specs.Outcome.{IsOutcomeAt}
use Rattle.parallel_phase.specs.Work.{OnlyDraws, Works}
use Rattle.parallel_phase.specs.declared.drawn.Drawn.{Drawn}
use Rattle.parallel_phase.proofs.Works.{works}

-- a further slice, after what the seat had looked at
pub slice_more : (jobs : List Segment) (memory : Memory) (number done : ℕ) (old mid new : SeatState) (slice : Option Progress) → Looks old mid → IsSlice jobs memory number done mid new slice
    → IsSlice jobs memory number 0 old new slice
slice_more jobs memory number done old mid new None first is = (looks_again old mid new first is.0, is.1)
slice_more jobs memory number done old mid new (Some (GoesOn job)) first is = (looks_again old mid new first is.0, is.1, omega (arith, is.2), is.3)
slice_more jobs memory number done old mid new (Some (Over end)) first is =
    record { looked = is.looked; looks = looks_again old mid is.looked first is.looks; wanted = is.wanted; noted = is.noted; is = is.is }

-- a seat drew a job, and ran or skipped it
pub works_over : (jobs : List Segment) (memory : Memory) (old mid new : SeatState) (drawn : Drawn) → mid ≡ record old { log = with_drawn old.log drawn.number }
    → length mid.log.drawn ≤ length jobs → IsOutcomeAt jobs memory drawn.number mid new drawn.outcome → Works jobs memory old new drawn
works_over jobs memory old mid new drawn drew room over = works jobs memory old mid over.looked new drawn drew over.looks over.noted over.is room

-- a seat drew a job, and memory was refused for it
pub only_draws : (jobs : List Segment) (number : ℕ) (old mid new : SeatState) → mid ≡ record old { log = with_drawn old.log number } → number < length jobs → Looks mid new
    → OnlyDraws jobs old new
only_draws jobs number old mid new drew inside looks = record { number = number; inside = inside; looks = subst (λ (s : SeatState). Looks s new) drew looks }
