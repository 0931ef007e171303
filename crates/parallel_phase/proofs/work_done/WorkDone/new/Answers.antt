use Rattle.parallel_phase.proofs.Works.{outcomes_none}
use Rattle.parallel_phase.proofs.work_done.WorkDone.new.Goals as goal

pub invariant_of-result : goal.invariant_of-result
invariant_of-result c going = rw c.new.ensures.items (outcomes_none _ c.requires)
