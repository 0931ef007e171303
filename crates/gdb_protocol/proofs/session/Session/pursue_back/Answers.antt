use Rattle.std.proofs.Common.{None, refl}
use Rattle.gdb_protocol.specs.Pursuing.{met_back, wanted_with}
use Rattle.gdb_protocol.proofs.Pursuits.{returns_on}
use Rattle.gdb_protocol.proofs.session.Session.pursue_back.Goals as goal

pub returns-clause-back : goal.returns-clause-back
returns-clause-back c =
    returns_on c.meet_back.result (wanted_with c.args.self.now.points None c.args.alone None) _ c.args.self.now c.go_back_to.new.self c.meet_back.new.self c.in_ok-halt.halt
    (λ pursued moment halt. met_back pursued halt) refl c.in_ok-halt.ensures.back c.go_back_to.ensures.pursues c.meet_back.ensures.stands c.meet_back.ensures.next
