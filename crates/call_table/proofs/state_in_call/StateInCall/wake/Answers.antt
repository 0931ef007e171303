use Rattle.std.proofs.Common.{refl}
use Rattle.call_table.specs.StateInCall.{state_in}
use Rattle.call_table.proofs.Calls.{parked-woken}
use Rattle.call_table.proofs.state_in_call.StateInCall.wake.Goals as goal

pub returns-clause-ends : goal.returns-clause-ends
unfolding state_in
returns-clause-ends c = record {
  parked = parked-woken (state_in c.args.self.now) c.args.thread c.args.mutex c.complete.new.threads c.take_back.new.self c.complete.ensures c.take_back.ensures c.requires.woken c.requires.parked;
  input = refl;
}
