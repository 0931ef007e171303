use Rattle.std.proofs.Common.{◌≡◌, drop}
use Rattle.call_table.specs.Effects.{wake_up}
use Rattle.call_table.proofs.state_in_call.threads_change.wake_up.Given as goal

abbrev pub invariant-loop-woken : goal.invariant-loop-woken
invariant-loop-woken l = wake_up (drop l.woken-index l.woken) l.threads ≡ wake_up l.fn.woken l.fn.threads
