use Rattle.std.proofs.Common.{◌∙◌, subst}
use Rattle.token.specs.Point.{Point}
use Rattle.timeline.specs.Going.{IsAt}
use Rattle.timeline.specs.Line.{start_of}
use Rattle.gdb_monitor.proofs.Returning.{returns_to}
use Rattle.gdb_monitor.proofs.searching.step_of.Goals as goal

pub returns-clause-stays : goal.returns-clause-stays
returns-clause-stays c =
    let start = start_of c.args.timeline.now in
    let run = c.in_ok-seek.ensures.run ∙ c.in_ok-found.ensures in
    let there = subst (λ (start : Point). IsAt start c.seek.new.self.present) run c.in_ok-seek.ensures.position in
    let back =
    returns_to start c.find_turn.new.timeline.present c.seek.new.self.present c.step_number-here.result c.in_ok-seek.field-0 _ there c.step_number-here.ensures.position
    c.step_number-here.ensures.few c.in_ok-seek.ensures.sought in
    record { run = run; step = back ∙ c.step_number-here.ensures.step }
