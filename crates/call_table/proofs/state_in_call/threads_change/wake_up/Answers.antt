use Rattle.std.proofs.Common.{sym, ◌∙◌}
use Rattle.call_table.proofs.ByObjects.{wake_up-step, wake_up-end}
use Rattle.call_table.proofs.state_in_call.threads_change.wake_up.Goals as goal

pub loop-woken-preserved : goal.loop-woken-preserved
loop-woken-preserved c =
    rw (c.set_status.ensures, c.from.ensures, c.from-in-loop-woken.ensures)
    (wake_up-step c.args.woken.now c.loop-woken.woken-index (record { thread = 0; mutex = 0 }) c.loop-woken.threads c.loop-woken-test.true ∙ c.loop-woken.invariant)

pub returns : goal.returns
returns c = sym (wake_up-end c.args.woken.now c.loop-woken.woken-index c.loop-woken.threads c.loop-woken-test.false) ∙ c.loop-woken.invariant
