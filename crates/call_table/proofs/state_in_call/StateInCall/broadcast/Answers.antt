use Rattle.std.proofs.Common.{refl}
use Rattle.condvar_barrier.specs.Rows.{woke, broadcast}
use Rattle.call_table.specs.Effects.{let_pass}
use Rattle.call_table.specs.StateInCall.{state_in}
use Rattle.call_table.proofs.ByObjects.{by_objects-is}
use Rattle.call_table.proofs.state_in_call.StateInCall.broadcast.Goals as goal

pub returns : goal.returns
unfolding state_in let_pass
returns c = record {
  done = rw (c.wake_up.ensures, c.as_slice.ensures.value)
      (by_objects-is (λ objects. broadcast objects c.args.condition) (state_in c.args.self.now)
      (woke c.broadcast-answer.result.reply c.broadcast-answer.result.let_go.items c.broadcast-answer.new.self) c.broadcast-answer.ensures);
  input = refl;
}
