use Rattle.timeline.specs.Halts.{wanted_by}
use Rattle.gdb_protocol.specs.Pursuing.{slice}
use Rattle.gdb_protocol.proofs.Pursuits.{forward_goes}
use Rattle.gdb_protocol.proofs.session.Session.go_to.Goals as goal

pub returns-clause-goes : goal.returns-clause-goes
returns-clause-goes c =
    forward_goes c.forward.result (wanted_by c.stops_at-stops.result) _ slice c.args.self.now.timeline c.forward.new.self c.stops_at-stops.ensures c.forward.ensures.passed
    c.forward.ensures.halts
