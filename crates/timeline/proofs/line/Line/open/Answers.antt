use Rattle.std.proofs.Common.{◌≡◌, ◌∙◌, Some, ap}
use Rattle.token.specs.Point.{Point}
use Rattle.token.specs.RunInTurn.{point_of}
use Rattle.timeline.specs.Checkpoints as checkpoints
use Rattle.timeline.specs.Moment.{beginning, moment_at}
use Rattle.timeline.specs.Present.{BeginsAt, point_at}
use Rattle.timeline.specs.declared.checkpoint.Checkpoint.{Checkpoint}
use Rattle.timeline.proofs.Positions.{at_start}
use Rattle.timeline.proofs.line.Line.open.Goals as goal

pub returns-clause-line : goal.returns-clause-line
returns-clause-line c =
    let start = checkpoints.start_of c.new.result in
    let point : start ≡ point_at c.in_ok-present.present =
    ap (λ (kept : Checkpoint). point_of kept.serial.value) c.new.ensures.first ∙ c.in_ok-first.ensures.point in
    let begins : BeginsAt start c.in_ok-present.present =
    ap (moment_at start) c.in_ok-present.ensures.before ∙ at_start start ∙ ap (λ (point : Point). Some (beginning point)) point in
    record { present = c.in_ok-present.ensures.sound; begins = begins; checkpoints = c.new.ensures.sound }

pub returns-clause-start : goal.returns-clause-start
returns-clause-start c =
    ap (λ (kept : Checkpoint). point_of kept.serial.value) c.new.ensures.first ∙ c.in_ok-first.ensures.point ∙ c.in_ok-present.ensures.point
