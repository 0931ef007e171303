use Rattle.std.proofs.Common.{None, refl}
use Rattle.gdb_protocol.specs.Pursuing.{after_back_step, wanted_with}
use Rattle.gdb_protocol.proofs.Pursuits.{returns_on, same_wanted}
use Rattle.gdb_protocol.proofs.session.Session.pursue_back_step.Goals as goal

pub returns-clause-back : goal.returns-clause-back
returns-clause-back c =
    returns_on c.meet_back_step.result (wanted_with c.args.self.now.points c.anywhere.result c.only_if-alone.result None) _ c.args.self.now c.go_back_to.new.self
    c.meet_back_step.new.self c.in_ok-halt.halt (after_back_step c.args.thread)
    (same_wanted c.args.self.now.points _ _ _ _ None None c.anywhere.ensures c.only_if-alone.ensures refl) c.in_ok-halt.ensures.back
    c.go_back_to.ensures.pursues c.meet_back_step.ensures.stands c.meet_back_step.ensures.next
