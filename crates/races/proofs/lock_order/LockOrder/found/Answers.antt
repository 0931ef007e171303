use Rattle.std.proofs.Common.{◌∙◌}
use Rattle.std.proofs.lemmas.Result.{IfOk-weaker}
use Rattle.races.specs.LibraryUsers.{hints_in}
use Rattle.races.specs.LockOrder.{acquired_in}
use Rattle.races.proofs.Crossed.{are_faults}
use Rattle.races.proofs.lock_order.LockOrder.found.Goals as goal

pub returns-clause-faults : goal.returns-clause-faults
returns-clause-faults c =
    IfOk-weaker c.from_slice.result _ _
    (λ faults made history records. are_faults (acquired_in (hints_in history)) faults.items (made ∙ c.faults.ensures ∙ records.order.crossings_are.faults))
    c.from_slice.ensures.items
