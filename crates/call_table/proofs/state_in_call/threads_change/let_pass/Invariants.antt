use Rattle.std.proofs.Common.{◌≡◌, drop}
use Rattle.call_table.specs.Effects.{let_pass}
use Rattle.call_table.proofs.state_in_call.threads_change.let_pass.Given as goal

abbrev pub invariant-loop-number : goal.invariant-loop-number
invariant-loop-number l = let_pass l.value (drop l.number-index l.numbers) l.threads ≡ let_pass l.fn.value l.fn.numbers l.fn.threads
