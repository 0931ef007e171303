use Rattle.std.proofs.Common.{refl}
use Rattle.condvar_barrier.specs.Rows as row
use Rattle.call_table.specs.Effects.{wake_up}
use Rattle.call_table.specs.StateInCall.{state_in}
use Rattle.call_table.proofs.ByObjects.{by_objects-is}
use Rattle.call_table.proofs.state_in_call.StateInCall.barrier.Goals as goal

pub returns : goal.returns
unfolding state_in wake_up
returns c = record {
  done = rw (c.let_arrived_pass.ensures, c.as_slice.ensures.value)
      (by_objects-is (λ objects. row.barrier objects c.args.thread c.args.number c.args.count) (state_in c.args.self.now)
      (row.let_pass c.barrier-answer.result.reply c.barrier-answer.result.let_go.items c.barrier-answer.new.self) c.barrier-answer.ensures);
  input = refl;
}
