use Rattle.std.proofs.Common.{◌∙◌, ◌<◌, ap, Some, arith}
use Rattle.schedule_core.proofs.stepped_segment.SteppedSegment.count.Goals as goal

pub overflow_add-result : goal.overflow_add-result
overflow_add-result c =
    let left : c.args.self.now.steps < c.args.self.now.work.segment.left = c.requires.underway.call (c.requires.stopped ∙ ap Some c.in-Ecall.is) in
    let bounded = c.requires.underway.bounded in
    omega arith
