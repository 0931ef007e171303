use Rattle.std.proofs.Common.{◌∙◌, sym}
use Rattle.gdb_orders.proofs.Each.{none_yet, one_lacks, one_more}
use Rattle.gdb_orders.proofs.selection.has_each.Goals as goal

pub loop-number-init : goal.loop-number-init
loop-number-init c = none_yet c.args.numbers.now

pub loop-number-preserved : goal.loop-number-preserved
loop-number-preserved c = one_more c.args.numbers.now c.loop-number.number-counter c.loop-number.invariant (sym c.contains.ensures.value ∙ c.if-not-contains.false)

pub returns-then-not-contains : goal.returns-then-not-contains
returns-then-not-contains c = sym (one_lacks c.args.numbers.now c.loop-number.number-counter c.args.count c.loop-number-test.true (sym c.contains.ensures.value ∙ c.if-not-contains.true))
