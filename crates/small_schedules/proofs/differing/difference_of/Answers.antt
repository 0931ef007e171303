use Rattle.std.proofs.Common.{◌<◌, inr, subst}
use Rattle.runtime.specs.Answer.{HasAnswer}
use Rattle.token.specs.History.{phase_of}
use Rattle.token.specs.Setup.{Setup}
use Rattle.small_schedules.proofs.differing.difference_of.Goals as goal

pub returns : goal.returns
returns g c =
    inr (subst (λ (setup : Setup). HasAnswer setup (λ history. phase_of history < c.args.shuffle.last)) c.in_ok-serial.ensures.setup (c.in_ok-go_to.ensures.ended c.if-branch.false))
