use Rattle.std.proofs.Common.{refl, [], ◌∷◌}
use Rattle.condvar_barrier.specs.Rows.{woke, signal}
use Rattle.call_table.specs.Effects.{let_pass, wake_up}
use Rattle.call_table.specs.StateInCall.{state_in}
use Rattle.call_table.proofs.ByObjects.{by_objects-is}
use Rattle.call_table.proofs.state_in_call.StateInCall.signal.Goals as goal

pub returns-in-Some : goal.returns-in-Some
unfolding state_in let_pass wake_up
returns-in-Some c = record {
  done = rw (c.set_status.ensures, c.from.ensures, c.from-in-Some.ensures)
      (by_objects-is (λ objects. signal objects c.args.condition) (state_in c.args.self.now)
      (woke c.signal-answer.result.reply (c.in-Some.woken ∷ []) c.signal-answer.new.self) (rw c.in-Some.is at c.signal-answer.ensures));
  input = refl;
}

pub returns-in_default : goal.returns-in_default
unfolding state_in let_pass wake_up
returns-in_default c = record {
  done = by_objects-is (λ objects. signal objects c.args.condition) (state_in c.args.self.now)
      (woke c.signal-answer.result.reply [] c.signal-answer.new.self) (rw c.in_default.is at c.signal-answer.ensures);
  input = refl;
}
