use Rattle.std.proofs.Common.{Some, arith}
use Rattle.explored_runs.proofs.Slotted.{slots_put}
use Rattle.explored_runs.proofs.slots.put.Goals as goal

pub returns : goal.returns
returns c image input config seen slots =
    slots_put image input config c.args.batch c.args.slots.now _ (Some c.args.seen) (omega arith, seen) slots
