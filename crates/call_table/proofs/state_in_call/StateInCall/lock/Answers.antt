use Rattle.std.proofs.Common.{refl}
use Rattle.condvar_barrier.specs.Rows.{replied, lock}
use Rattle.call_table.specs.Effects.{let_pass, wake_up}
use Rattle.call_table.specs.StateInCall.{state_in}
use Rattle.call_table.proofs.ByObjects.{by_objects-is}
use Rattle.call_table.proofs.state_in_call.StateInCall.lock.Goals as goal

pub returns : goal.returns
unfolding state_in let_pass wake_up
returns c = record {
  done = by_objects-is (λ objects. lock objects c.args.thread c.args.mutex) (state_in c.args.self.now) (replied c.lock.result c.lock.new.self) c.lock.ensures;
  input = refl;
}
