use Rattle.std.proofs.Common.{◌≡◌, ◌∙◌, Some, ap, subst, sym, arith}
use Rattle.token.specs.Point.{Point}
use Rattle.timeline.specs.Going.{IsAt}
use Rattle.timeline.specs.Line.{start_of}
use Rattle.timeline.specs.Present.{moment_of}
use Rattle.timeline.specs.Moment.{moment_at}
use Rattle.gdb_protocol.proofs.Pursuits.{found_at}
use Rattle.gdb_protocol.proofs.session.Session.thread_before.Goals as goal

pub returns-clause-stands : goal.returns-clause-stands
returns-clause-stands c =
    let start = start_of c.args.self.now.timeline in
    let run = c.in_ok-seek.ensures.run ∙ c.seek_before.ensures.keeps.run in
    let there = subst (λ (start : Point). IsAt start c.seek.new.self.present) run c.in_ok-seek.ensures.position in
    let found =
    found_at start c.seek_before.new.self.timeline.present c.seek.new.self.present c.step_number-here.result c.in_ok-seek.field-0
    (moment_of c.args.self.now.timeline.present) there c.step_number-here.ensures.position c.step_number-here.ensures.few
    (omega (arith, c.in_ok-seek_before.ensures.before, c.step_number-here.ensures.step)) c.in_ok-seek.ensures.sought in
    let same : Some (moment_of c.seek.new.self.present) ≡ Some (moment_of c.args.self.now.timeline.present) =
    sym there ∙ ap (moment_at start) found ∙ c.step_number-here.ensures.position in
    record { step = found ∙ c.step_number-here.ensures.step; moment = cc }
