use Rattle.std.proofs.Common.{◌≡◌, drop}
use Rattle.call_table.specs.Effects.{let_pass}
use Rattle.call_table.proofs.state_in_call.threads_change.let_arrived_pass.Given as goal

abbrev pub invariant-loop-number : goal.invariant-loop-number
invariant-loop-number l = let_pass 0 (drop l.number-index l.arrived) l.threads ≡ let_pass 0 l.fn.arrived l.fn.threads
