use Rattle.std.proofs.Common.{Some}
use Rattle.std.proofs.lemmas.List.Elements.{All-pop}
use Rattle.explored_runs.specs.Runs.{IsSeen}
use Rattle.explored_runs.proofs.drawing.put_all.Goals as goal

pub loop-run-preserved : goal.loop-run-preserved
loop-run-preserved c image input config seen slots =
    let before = c.loop-run.invariant image input config seen slots in
    let popped = All-pop (IsSeen image input config) _ _ (Some c.in-Some.run') c.in-Some.ensures.items before.seen in
    record { slots = c.put.ensures image input config popped.1 before.slots; seen = popped.0 }
