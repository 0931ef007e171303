use Rattle.std.proofs.Common.{refl}
use Rattle.gdb_protocol.specs.Pursuing.{after_first, watched_with}
use Rattle.gdb_protocol.proofs.Pursuits.{goes_on}
use Rattle.gdb_protocol.proofs.session.Session.pursue_first.Goals as goal

pub returns-clause-goes : goal.returns-clause-goes
returns-clause-goes c =
    goes_on c.meet_first.result (watched_with c.args.self.now.points) _ 1 c.args.self.now c.go_one.new.self c.meet_first.new.self c.in_ok-halt.halt (after_first c.args.stepper) refl
    c.in_ok-halt.ensures.goes c.go_one.ensures.pursues c.meet_first.ensures.stands c.meet_first.ensures.next
