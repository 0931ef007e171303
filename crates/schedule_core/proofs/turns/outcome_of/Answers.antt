use Rattle.std.proofs.Common.{◌∙◌, sym}
use Rattle.token.specs.RunInTurn.{point_of}
use Rattle.schedule_core.proofs.Turning.{goes_on, has_ended}
use Rattle.schedule_core.proofs.turns.outcome_of.Goals as goal

pub returns-in-Ended : goal.returns-in-Ended
returns-in-Ended c = sym (has_ended (point_of c.args.serial.now) c.in-Ended.outcome (sym c.in-Ended.ensures.need))

pub returns-in_default : goal.returns-in_default
returns-in_default c = sym (goes_on (point_of c.args.serial.now) (λ outcome is. c.in_default.not-Ended outcome (c.need.ensures.need ∙ is)))
