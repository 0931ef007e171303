use Rattle.std.proofs.Common.{◌∙◌, Some, ap}
use Rattle.gdb_protocol.specs.declared.pursuit.Pursuit.TheVariants as pursuit
use Rattle.gdb_protocol.proofs.Pursuits.{advances}
use Rattle.gdb_protocol.proofs.session.Session.advance.Goals as goal

pub returns-in-Some-BackStep-clause-advances : goal.returns-in-Some-BackStep-clause-advances
returns-in-Some-BackStep-clause-advances c =
    let is = rw c.in-Some-BackStep.is at c.in-Some-BackStep.field-0-is in
    advances c.pursue_back_step.result c.args.self.now c.pursue_back_step.new.self (pursuit.BackStep c.in-Some-BackStep.thread c.in-Some-BackStep.is_alone)
    (c.in-Some-BackStep.is ∙ ap Some is) c.pursue_back_step.ensures.back
