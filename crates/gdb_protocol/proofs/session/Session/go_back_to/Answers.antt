use Rattle.timeline.specs.Halts.{wanted_by}
use Rattle.timeline.specs.Line.{start_of}
use Rattle.timeline.specs.Present.{step_of}
use Rattle.gdb_protocol.proofs.Pursuits.{backward_goes}
use Rattle.gdb_protocol.proofs.session.Session.go_back_to.Goals as goal

pub returns-clause-back : goal.returns-clause-back
returns-clause-back c =
    backward_goes c.back.result (wanted_by c.stops_at-stops.result) _ (start_of c.args.self.now.timeline) (step_of c.args.self.now.timeline.present) (step_of c.back.new.self.present)
    c.stops_at-stops.ensures c.back.ensures.back
