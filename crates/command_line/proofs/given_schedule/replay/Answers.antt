use Rattle.token.specs.RunInTurn.{point_of}
use Rattle.command_line.proofs.Replays.{few_workers, replays}
use Rattle.command_line.proofs.given_schedule.replay.Goals as goal

pub go_through-requires-clause-few : goal.go_through-requires-clause-few
go_through-requires-clause-few g c = (few_workers c.args.config.now c.in_ok-opened.ensures.opened.accepted.0.0).0

pub go_through-requires-clause-some : goal.go_through-requires-clause-some
go_through-requires-clause-some g c = (few_workers c.args.config.now c.in_ok-opened.ensures.opened.accepted.0.0).1

pub returns-clause-answer : goal.returns-clause-answer
returns-clause-answer g c =
    replays _ (g.W.Write.contents c.args.stdout.now) _
    (point_of c.in_ok-opened.opened.start).setup c.in_ok-opened.opened.events.items c.go_through.result c.in_ok-opened.ensures.opened
    c.go_through.ensures.replayed c.go_through.ensures.cut
