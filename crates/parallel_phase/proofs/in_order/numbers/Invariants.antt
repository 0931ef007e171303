use Rattle.std.proofs.Common.{◌≡◌}
use Rattle.parallel_phase.specs.Turns.{numbers_to}
use Rattle.parallel_phase.proofs.in_order.numbers.Given as goal

abbrev pub invariant-loop-number : goal.invariant-loop-number
invariant-loop-number l = l.names.items ≡ numbers_to l.number
