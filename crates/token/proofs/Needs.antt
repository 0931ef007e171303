-- The end of the segment that a run asks for is what its next turn needs.
use Rattle.std.proofs.Common.{◌≡◌, ℕ, Option, Some, None, refl, sym, subst}
use Rattle.token.specs.Point.{Point, IsNeededAt, IsNeededBy, due_at, need_at, need_by, need_of}
use Rattle.segment.specs.Ends.{IsEndOf}
use Rattle.token.specs.Segments.{segment_in}
use Rattle.token.specs.declared.due.Due.{Due}
use Rattle.token.specs.declared.due.Due.TheVariants as due
use Rattle.token.specs.declared.need.Need.TheVariants as need
use Rattle.token.specs.declared.need.Work.{Work}
use Rattle.token.specs.declared.outcome.RunOutcome.{RunOutcome}
use Rattle.segment.specs.declared.segment_end.SegmentEnd.{SegmentEnd}

pub segment_needed : (point : Point) (work : Work) (end : SegmentEnd) → need_at point ≡ need.Segment work → IsEndOf point.base work.segment end → IsNeededAt point (Some end)
segment_needed point work end is ends = subst (λ asked. IsNeededBy point asked (Some end)) (sym is) ends

pub keeper_needed : (point : Point) (work : Work) (end : SegmentEnd) → need_at point ≡ need.Keeper work → IsEndOf point.state.memory work.segment end → IsNeededAt point (Some end)
keeper_needed point work end is ends = subst (λ asked. IsNeededBy point asked (Some end)) (sym is) ends

pub wake_needed : (point : Point) (thread : ℕ) → need_at point ≡ need.Wake thread → IsNeededAt point None
wake_needed point thread is = subst (λ asked. IsNeededBy point asked None) (sym is) tt

-- the needed segment is its thread's in the phase
segment_by : (point : Point) (work : Work) (ended : Option RunOutcome) (who : Due) → need_by ended (need_of point who) ≡ need.Segment work
    → work ≡ record { thread = work.thread; segment = segment_in point.setup point.phase point.base_threads work.thread }
segment_by point work (Some ends) who is = cc
segment_by point work None (due.Fresh thread) is =
    let same : record { thread = thread; segment = segment_in point.setup point.phase point.base_threads thread } ≡ work = cc is in
    subst (λ (w : Work). w ≡ record { thread = w.thread; segment = segment_in point.setup point.phase point.base_threads w.thread }) same refl
segment_by point work None (due.Keeper thread) is = cc
segment_by point work None (due.Woken thread mutex) is = cc

pub segment_is : (point : Point) (work : Work) → need_at point ≡ need.Segment work → work ≡ record { thread = work.thread; segment = segment_in point.setup point.phase point.base_threads work.thread }
unfolding need_at
segment_is point work is = segment_by point work point.ended (due_at point) is

pub ruleset needs = (segment_needed, keeper_needed, wake_needed)
