use Rattle.std.proofs.Common.{◌∙◌}
use Rattle.gdb_protocol.proofs.Packets.{on_ok}
use Rattle.gdb_protocol.proofs.Pursuits.{next_met}
use Rattle.gdb_protocol.proofs.session.Session.meet_next.Goals as goal

pub returns-in_default-clause-next : goal.returns-in_default-clause-next
returns-in_default-clause-next c =
    on_ok c.meet.result (λ is. is ∙ next_met c.args.stepper c.args.self.now.pursuit c.args.self.now.timeline c.args.halt c.in_default.not-OtherThread) c.meet.ensures.next
