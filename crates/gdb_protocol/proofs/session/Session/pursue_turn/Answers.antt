use Rattle.std.proofs.Common.{◌∙◌, ap}
use Rattle.gdb_protocol.specs.Pursuing.{after_turn, known_unless, slice, wanted_with}
use Rattle.gdb_protocol.proofs.Pursuits.{goes_on, same_wanted}
use Rattle.gdb_protocol.proofs.session.Session.pursue_turn.Goals as goal

pub returns-clause-goes : goal.returns-clause-goes
returns-clause-goes c =
    goes_on c.meet_turn.result (wanted_with c.args.self.now.points c.anywhere.result c.alone-moving.result c.known_unless-known_threads.result) _ slice c.args.self.now
    c.go_to.new.self c.meet_turn.new.self c.in_ok-halt.halt (after_turn c.args.stepper)
    (same_wanted c.args.self.now.points _ _ _ _ _ _ c.anywhere.ensures c.alone-moving.ensures
    (c.known_unless-known_threads.ensures ∙ ap (known_unless c.args.self.now) c.alone-moving.ensures))
    c.in_ok-halt.ensures.goes c.go_to.ensures.pursues c.meet_turn.ensures.stands c.meet_turn.ensures.next
