use Rattle.std.proofs.Common.{Some, refl, subst}
use Rattle.std.proofs.lemmas.Result.{IfOk-weaker}
use Rattle.schedule_core.proofs.Coming.{is_segment}
use Rattle.schedule_core.specs.Underway.{HasCome, memory_of}
use Rattle.segment.proofs.Ending.{end_of}
use Rattle.twins.specs.View.{cells_of}
use Rattle.schedule_core.proofs.stepped_segment.SteppedSegment.end.Goals as goal

pub returns : goal.returns
returns c =
    let run = c.args.self.now in
    let come : HasCome run.work.segment (memory_of run) run.hart (cells_of run.view) run.steps (Some c.args.stop) =
    subst (λ stop. HasCome run.work.segment (memory_of run) run.hart (cells_of run.view) run.steps stop) c.requires.stopped c.requires.underway in
    IfOk-weaker c.of.result _ _
    (λ end is. end_of run.work.segment (memory_of run) c.args.stop c.count.result run.hart run.view end refl (rw c.count.ensures (is_segment _ _ _ _ _ _ come)) is)
    c.of.ensures
