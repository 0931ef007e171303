use Rattle.runtime.specs.declared.run_end.RunEnd.{RunEnd}
use Rattle.explored_runs.proofs.Ends.{only_memory}
use Rattle.explored_runs.proofs.shuffled.run_shuffled.Goals as goal

pub fault_of-requires : goal.fault_of-requires
fault_of-requires g c =
    let never = rw c.in-Err.is at c.run_opened-run.ensures.writes_if in
    only_memory RunEnd c.in-Err.interruption (rw c.in-Err.is at c.run_opened-run.ensures.failures) (λ failed. (never failed).0)
