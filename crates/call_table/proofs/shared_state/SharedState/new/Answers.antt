use Rattle.call_table.proofs.Calls.{parked-free}
use Rattle.call_table.proofs.shared_state.SharedState.new.Goals as goal

pub invariant_of-result-2 : goal.invariant_of-result-2
invariant_of-result-2 c = record { parked = parked-free c.create-number.new.self c.new-2.result c.new-2.ensures }
