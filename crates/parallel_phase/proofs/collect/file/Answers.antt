use Rattle.std.proofs.Common.{◌∙◌}
use Rattle.parallel_phase.proofs.Fates.{file_inside, file_step}
use Rattle.parallel_phase.proofs.collect.file.Goals as goal

pub put-requires : goal.put-requires
put-requires c = (file_inside _ _ _ _ c.in-Some.ensures.steps.0 c.loop-job.invariant.inside).0

pub loop-job-preserved : goal.loop-job-preserved
loop-job-preserved c =
    let kept = c.loop-job.invariant in
    let step = file_step _ _ _ _ _ c.in-Some.ensures.steps.0 c.put.ensures kept.inside in
    record { inside = step.0; filed_is = step.1 ∙ kept.filed_is }
