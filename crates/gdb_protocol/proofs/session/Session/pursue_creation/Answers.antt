use Rattle.gdb_protocol.specs.Pursuing.{more_than, slice}
use Rattle.gdb_protocol.proofs.Pursuits.{goes_there, stops_before}
use Rattle.gdb_protocol.proofs.session.Session.pursue_creation.Goals as goal

pub returns-in-GoesOn-clause-goes : goal.returns-in-GoesOn-clause-goes
returns-in-GoesOn-clause-goes c =
    goes_there (more_than c.args.thread) slice c.args.self.now c.go_beyond.new.self c.in_ok-halt.halt c.in-GoesOn.is c.in_ok-halt.ensures.goes c.go_beyond.ensures.pursues

pub returns-in_default-clause-goes : goal.returns-in_default-clause-goes
returns-in_default-clause-goes c =
    stops_before c.stop_before.result (more_than c.args.thread) slice c.args.self.now c.go_beyond.new.self c.stop_before.new.self c.in_ok-halt.halt c.in_default.not-GoesOn
    c.in_ok-halt.ensures.goes c.stop_before.ensures.before c.stop_before.ensures.stopped
