use Rattle.std.proofs.Common.{sym, ◌∙◌}
use Rattle.call_table.proofs.ByObjects.{let_pass-step, let_pass-end}
use Rattle.call_table.proofs.state_in_call.threads_change.let_arrived_pass.Goals as goal

pub loop-number-preserved : goal.loop-number-preserved
loop-number-preserved c =
    rw (c.complete.ensures, c.from.ensures)
    (let_pass-step 0 c.args.arrived.now c.loop-number.number-index 0 c.loop-number.threads c.loop-number-test.true ∙ c.loop-number.invariant)

pub returns : goal.returns
returns c = sym (let_pass-end 0 c.args.arrived.now c.loop-number.number-index c.loop-number.threads c.loop-number-test.false) ∙ c.loop-number.invariant
