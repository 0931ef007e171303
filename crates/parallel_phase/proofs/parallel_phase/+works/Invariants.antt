use Rattle.std.proofs.Common.{◌+◌, ◌*◌, length}
use Rattle.parallel_phase.proofs.parallel_phase.+works.Given as goal

abbrev pub decreases-ParallelPhase::work_all : goal.decreases-ParallelPhase::work_all
decreases-ParallelPhase::work_all g l = 2 * length l.works.now

abbrev pub decreases-join_mut+arg2 : goal.decreases-join_mut+arg2
decreases-join_mut+arg2 g l = 2 * length l.first.now + 1

abbrev pub decreases-join_mut+arg3 : goal.decreases-join_mut+arg3
decreases-join_mut+arg3 g l = 2 * length l.others.now + 1
