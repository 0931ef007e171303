use Rattle.std.proofs.Common.{◌+◌, ◌*◌}
use Rattle.parallel_phase.proofs.in_order.+serving.Given as goal

abbrev pub decreases-take_beside : goal.decreases-take_beside
decreases-take_beside g l = 2 * l.workers

abbrev pub decreases-join_mut+arg3 : goal.decreases-join_mut+arg3
decreases-join_mut+arg3 g l = 2 * l.others + 1
