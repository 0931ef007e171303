use Rattle.std.proofs.Common.{◌∙◌}
use Rattle.gdb_protocol.specs.Moves.{moment_in}
use Rattle.gdb_protocol.proofs.Packets.{on_ok}
use Rattle.gdb_protocol.proofs.Pursuits.{step_met}
use Rattle.gdb_protocol.proofs.session.Session.meet_back_step.Goals as goal

pub returns-in_default-clause-next : goal.returns-in_default-clause-next
returns-in_default-clause-next c =
    on_ok c.meet_found.result (λ is. is ∙ step_met c.args.thread c.args.self.now.pursuit (moment_in c.args.self.now) c.args.halt c.in_default.not-OtherThread) c.meet_found.ensures.next
