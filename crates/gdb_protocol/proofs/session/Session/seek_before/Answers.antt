use Rattle.std.proofs.Common.{subst, arith}
use Rattle.token.specs.Point.{Point}
use Rattle.timeline.specs.Going.{IsAt}
use Rattle.timeline.specs.Line.{start_of}
use Rattle.timeline.specs.Present.{moment_of}
use Rattle.timeline.proofs.Ending.{earlier}
use Rattle.gdb_protocol.proofs.Pursuits.{found_at}
use Rattle.gdb_protocol.proofs.session.Session.seek_before.Goals as goal

pub returns-clause-before : goal.returns-clause-before
returns-clause-before c =
    let start = start_of c.args.self.now.timeline in
    let there = subst (λ (start : Point). IsAt start c.seek.new.self.present) c.in_ok-seek.ensures.run c.in_ok-seek.ensures.position in
    let leads =
    earlier start c.saturating_sub-before.result c.step_number-here.result (moment_of c.args.self.now.timeline.present) (omega (arith, c.saturating_sub-before.ensures))
    c.step_number-here.ensures.position in
    let found =
    found_at start c.args.self.now.timeline.present c.seek.new.self.present c.saturating_sub-before.result c.in_ok-seek.field-0 leads.0 there leads.1
    (omega (arith, c.saturating_sub-before.ensures, c.step_number-here.ensures.few)) (omega (arith, c.saturating_sub-before.ensures, c.step_number-here.ensures.step))
    c.in_ok-seek.ensures.sought in
    omega (arith, found, c.saturating_sub-before.ensures, c.step_number-here.ensures.step)
