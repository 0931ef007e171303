use Rattle.std.proofs.Common.{◌∙◌, ap}
use Rattle.token.specs.RunInTurn.{point_of}
use Rattle.token.specs.declared.run_in_turn.RunInTurn.{RunInTurn}
use Rattle.small_schedules.proofs.Walked.{begins_at}
use Rattle.small_schedules.proofs.differing.open.Goals as goal

pub returns-clause-phase : goal.returns-clause-phase
returns-clause-phase c =
    begins_at (point_of c.recorded_by-serial.result) c.stands.ensures.0 c.stands.ensures.1
    (ap (λ (run : RunInTurn). (point_of run).done) c.recorded_by-serial.ensures ∙ c.in_ok-open_shuffled.ensures.done)
