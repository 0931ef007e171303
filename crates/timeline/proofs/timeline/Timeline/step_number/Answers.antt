use Rattle.std.proofs.Common.{◌≡◌, ◌∙◌, Some, ap, subst}
use Rattle.timeline.specs.Line.{start_of}
use Rattle.timeline.specs.Moment.{moment_at}
use Rattle.timeline.specs.Present.{moment_of, step_of}
use Rattle.timeline.specs.declared.line.Line.{Line}
use Rattle.timeline.proofs.Turning.{stands_at}
use Rattle.timeline.proofs.timeline.Timeline.step_number.Goals as goal

pub returns-clause-position : goal.returns-clause-position
returns-clause-position c =
    let line = c.self.inside.line in
    let there : moment_at (start_of line) (step_of line.present) ≡ Some (moment_of line.present) =
    stands_at (start_of line) line.present c.self.invariant.present.turns c.self.invariant.begins in
    ap (moment_at (start_of c.args.self.now)) (c.step_number.ensures ∙ ap (λ (line : Line). step_of line.present) c.self.view_is)
    ∙ subst (λ (line : Line). moment_at (start_of line) (step_of line.present) ≡ Some (moment_of line.present)) c.self.view_is there
