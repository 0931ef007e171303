use Rattle.std.proofs.Common.{Some, subst, sym, ◌∙◌}
use Rattle.schedule_core.proofs.Coming.{ends_by}
use Rattle.schedule_core.specs.Underway.{HasCome, memory_of}
use Rattle.twins.specs.View.{cells_of}
use Rattle.schedule_core.proofs.stepped_segment.SteppedSegment.ends_run.Goals as goal

pub returns-in-Some : goal.returns-in-Some
returns-in-Some c =
    let run = c.args.self.now in
    let come : HasCome run.work.segment (memory_of run) run.hart (cells_of run.view) run.steps (Some c.in-Some.stop) =
    subst (λ stop. HasCome run.work.segment (memory_of run) run.hart (cells_of run.view) run.steps stop) c.in-Some.is c.requires in
    rw c.in-Some.is (c.ends_run.ensures ∙ sym (ends_by _ _ _ _ _ _ come))
