use Rattle.parallel_phase.proofs.Slices.{slice_more}
use Rattle.parallel_phase.proofs.parallel_phase.run.Goals as goal

pub loop-slice-preserved : goal.loop-slice-preserved
loop-slice-preserved c =
    let held = rw c.in-Some-GoesOn.field-0-is at (rw c.in-Some-GoesOn.is at c.loop-slice.invariant) in
    slice_more _ _ _ _ _ _ _ c.in_ok-slice-in-Some-GoesOn.slice held.0 c.in_ok-slice-in-Some-GoesOn.ensures.slice
