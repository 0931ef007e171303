use Rattle.std.proofs.Common.{◌<◌, arith, subst}
use Rattle.runtime.specs.Answer.{HasAnswer}
use Rattle.token.specs.History.{phase_of}
use Rattle.token.specs.RunInTurn.{point_of}
use Rattle.token.specs.Setup.{Setup}
use Rattle.small_schedules.proofs.Walked.{ended_before}
use Rattle.small_schedules.proofs.walking.go_to.Goals as goal

pub returns-then-not-branch-clause-ended : goal.returns-then-not-branch-clause-ended
returns-then-not-branch-clause-ended g c = λ same.
    let goes = rw c.if-not-branch.true at c.in_ok-go_on.ensures.goes in
    let before : (point_of c.loop.serial).phase < c.args.phase = omega (arith, c.loop.invariant.within, c.if-phase.false) in
    subst (λ (setup : Setup). HasAnswer setup (λ history. phase_of history < c.args.phase)) c.loop.invariant.setup
    (ended_before (point_of c.loop.serial) c.stands.ensures.0 c.args.phase c.one_history.ensures.determinism c.one_history.ensures.progress
    c.stands.ensures.1 goes.1 before)
