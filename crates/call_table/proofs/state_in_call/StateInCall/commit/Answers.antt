use Rattle.std.proofs.Common.{refl}
use Rattle.call_table.proofs.Calls.{parked-set}
use Rattle.call_table.proofs.state_in_call.StateInCall.commit.Goals as goal

pub returns-clause-ends : goal.returns-clause-ends
returns-clause-ends c = record { parked = parked-set c.args.self.now c.args.thread _ c.set.new.self c.set.ensures c.requires.ready c.requires.parked; input = refl }
