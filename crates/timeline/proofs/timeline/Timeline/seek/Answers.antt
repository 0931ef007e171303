use Rattle.std.proofs.Common.{subst}
use Rattle.std.specs.Result.{OnErr}
use Rattle.timeline.specs.Going.{IsRefused}
use Rattle.timeline.specs.Halts.{nothing}
use Rattle.timeline.specs.Line.{start_of}
use Rattle.timeline.specs.declared.line.Line.{Line}
use Rattle.timeline.proofs.Moving.{if_refused}
use Rattle.timeline.proofs.Turning.{stands_at}
use Rattle.timeline.proofs.timeline.Timeline.seek.Goals as goal

pub returns-clause-refused : goal.returns-clause-refused
returns-clause-refused c =
    let new = c.seek.new.self.present in
    let refused = subst (λ (line : Line). OnErr c.seek.result (IsRefused nothing (start_of line) line.present new)) c.self.view_is c.seek.ensures.moves.refused in
    if_refused c.seek.result c.moved.result (IsRefused nothing (start_of c.args.self.now) c.args.self.now.present new) c.moved.ensures refused

pub returns-clause-position : goal.returns-clause-position
returns-clause-position c =
    let line = c.seek.new.self in
    stands_at (start_of line) line.present c.seek.ensures.moves.keeps.line.present.turns c.seek.ensures.moves.keeps.line.begins
