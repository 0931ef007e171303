use Rattle.std.proofs.lemmas.Result.{IfErr-weaker}
use Rattle.token.specs.RunInTurn.{point_of}
use Rattle.command_run.proofs.Runs.{if_ended}
use Rattle.command_run.specs.Serves.{AreToldOf}
use Rattle.command_run.proofs.running.run_wanted.Goals as goal

-- each of the texts was told the same
pub returns-clause-ended : goal.returns-clause-ended
returns-clause-ended g c =
    if_ended _ (AreToldOf g.O.Write.contents) (point_of c.args.start).setup c.run_by-run.result.run.result c.run_by-run.result.run.recorder _
    (λ turns changes told. rw c.into_items-recorder.ensures.items told) c.run_by-run.ensures.comes.end

pub returns-clause-writes : goal.returns-clause-writes
returns-clause-writes g c =
    IfErr-weaker c.run_by-run.result.run.result _ _ (λ interruption writes failed. (writes failed).0) c.run_by-run.ensures.comes.writes_if

-- and nothing was told yet
pub run_by-run-requires-after_bounds : goal.run_by-run-requires-after_bounds
run_by-run-requires-after_bounds g c κs within =
    record { done = c.requires.may.done; output = c.requires.may.output; failures = c.requires.may.failures; none = rw c.new-all.ensures c.requires.may.none }
