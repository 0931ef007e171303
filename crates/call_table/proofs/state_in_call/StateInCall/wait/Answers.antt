use Rattle.std.proofs.Common.{refl}
use Rattle.condvar_barrier.specs.Rows.{replied, wait}
use Rattle.call_table.specs.Effects.{let_pass, wake_up}
use Rattle.call_table.specs.StateInCall.{state_in}
use Rattle.call_table.proofs.ByObjects.{by_objects-is}
use Rattle.call_table.proofs.state_in_call.StateInCall.wait.Goals as goal

pub returns : goal.returns
unfolding state_in let_pass wake_up
returns c = record {
  done = by_objects-is (λ objects. wait objects c.args.thread c.args.condition c.args.mutex) (state_in c.args.self.now) (replied c.wait.result c.wait.new.self) c.wait.ensures;
  input = refl;
}
