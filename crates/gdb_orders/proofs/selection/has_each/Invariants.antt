use Rattle.std.proofs.Common.{◌≡◌, true}
use Rattle.gdb_orders.specs.Selections.{has_each}
use Rattle.gdb_orders.proofs.selection.has_each.Given as goal

abbrev pub invariant-loop-number : goal.invariant-loop-number
invariant-loop-number l = has_each l.numbers l.number-counter ≡ true
