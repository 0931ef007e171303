use Rattle.std.proofs.Common.{◌∙◌, subst}
use Rattle.token.specs.Point.{Point}
use Rattle.timeline.specs.Going.{IsAt}
use Rattle.timeline.specs.Line.{start_of}
use Rattle.gdb_monitor.proofs.Returning.{has_step, returns_to}
use Rattle.gdb_monitor.proofs.searching.existing.Goals as goal

pub returns-clause-stays : goal.returns-clause-stays
returns-clause-stays c =
    let start = start_of c.args.timeline.now in
    let run = c.in_ok-seek-2.ensures.run ∙ c.in_ok-seek.ensures.run in
    let there = subst (λ (start : Point). IsAt start c.seek-2.new.self.present) run c.in_ok-seek-2.ensures.position in
    let back =
    returns_to start c.seek.new.self.present c.seek-2.new.self.present c.step_number-here.result c.in_ok-seek-2.field-0 _ there c.step_number-here.ensures.position c.step_number-here.ensures.few
    c.in_ok-seek-2.ensures.sought in
    record { run = run; step = back ∙ c.step_number-here.ensures.step }

pub returns-clause-found : goal.returns-clause-found
returns-clause-found c =
    let start = start_of c.args.timeline.now in
    let there = subst (λ (start : Point). IsAt start c.seek.new.self.present) c.in_ok-seek.ensures.run c.in_ok-seek.ensures.position in
    rw (c.same_or_none.ensures, c.step_number-found.ensures.step)
    (has_step start c.args.timeline.now.present c.seek.new.self.present c.args.step c.in_ok-seek.field-0 there c.in_ok-seek.ensures.sought)
