use Rattle.std.proofs.Common.{List, subst, sym}
use Rattle.std.proofs.lemmas.List.Elements.{All-push}
use Rattle.explored_runs.specs.Runs.{AllSeen, IsSeen}
use Rattle.explored_runs.specs.declared.seen_run.SeenRun.{SeenRun}
use Rattle.explored_runs.proofs.drawing.draw_runs.Goals as goal

pub loop-preserved : goal.loop-preserved
loop-preserved g c =
    subst (λ (seen : List SeenRun). AllSeen c.args.image.now c.args.input.now c.args.config.now seen) (sym c.in_ok-keep.ensures)
    (All-push (IsSeen c.args.image.now c.args.input.now c.args.config.now) c.loop.seen.items c.in_ok-run.run' c.loop.invariant c.in_ok-run.ensures.seen)
