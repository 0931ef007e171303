use Rattle.std.proofs.Common.{subst}
use Rattle.std.specs.Result.{IfOk, OnErr}
use Rattle.timeline.specs.Going.{IsRefused}
use Rattle.timeline.specs.Halting.{NoneBetween}
use Rattle.timeline.specs.Halts.{wanted_by}
use Rattle.timeline.specs.Line.{start_of}
use Rattle.timeline.specs.Present.{step_of}
use Rattle.timeline.specs.declared.line.Line.{Line}
use Rattle.timeline.proofs.Moving.{if_moved, if_refused}
use Rattle.timeline.proofs.timeline.Timeline.forward.Goals as goal

pub returns-clause-passed : goal.returns-clause-passed
returns-clause-passed c =
    let wanted = wanted_by c.args.stops.now in
    let last = step_of c.forward.new.self.present in
    let passed =
    subst (λ (line : Line). IfOk c.forward.result (λ halt. NoneBetween wanted (start_of line) (step_of line.present) last)) c.self.view_is c.forward.ensures.passed in
    if_moved c.forward.result c.moved.result (NoneBetween wanted (start_of c.args.self.now) (step_of c.args.self.now.present) last) c.moved.ensures passed

pub returns-clause-refused : goal.returns-clause-refused
returns-clause-refused c =
    let wanted = wanted_by c.args.stops.now in
    let new = c.forward.new.self.present in
    let refused =
    subst (λ (line : Line). OnErr c.forward.result (IsRefused wanted (start_of line) line.present new)) c.self.view_is c.forward.ensures.moves.refused in
    if_refused c.forward.result c.moved.result (IsRefused wanted (start_of c.args.self.now) c.args.self.now.present new) c.moved.ensures refused
