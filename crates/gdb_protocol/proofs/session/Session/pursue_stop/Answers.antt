use Rattle.std.proofs.Common.{ap, None}
use Rattle.gdb_protocol.specs.Pursuing.{met, slice, wanted_with}
use Rattle.gdb_protocol.proofs.Pursuits.{goes_on}
use Rattle.gdb_protocol.proofs.session.Session.pursue_stop.Goals as goal

pub returns-clause-goes : goal.returns-clause-goes
returns-clause-goes c =
    goes_on c.meet.result (wanted_with c.args.self.now.points None c.args.alone c.known_unless-known_threads.result) _ slice c.args.self.now c.go_to.new.self c.meet.new.self c.in_ok-halt.halt
    (λ pursued line halt. met pursued halt)
    (ap (wanted_with c.args.self.now.points None c.args.alone) c.known_unless-known_threads.ensures)
    c.in_ok-halt.ensures.goes c.go_to.ensures.pursues c.meet.ensures.stands c.meet.ensures.next
