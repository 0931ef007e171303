use Rattle.std.proofs.Common.{◌≤◌, ◌+◌, Option, IsSome, refl, sym, subst}
use Rattle.runtime.proofs.Needs.{end_at}
use Rattle.token.specs.Point.{Point}
use Rattle.token.specs.RunInTurn.{point_of}
use Rattle.token.specs.declared.need.Need.TheVariants as need
use Rattle.token.specs.declared.outcome.RunOutcome.{RunOutcome}
use Rattle.small_schedules.proofs.Walked.{moved_within}
use Rattle.small_schedules.proofs.walking.go_on.Goals as goal

pub returns-in-Ok-clause-goes : goal.returns-in-Ok-clause-goes
returns-in-Ok-clause-goes c =
    subst (λ (point : Point). point.phase ≤ (point_of c.args.serial.now).phase + 1) (sym c.in-Ok.ensures.moved) (moved_within (point_of c.args.serial.now) _)

pub returns-clause-goes : goal.returns-clause-goes
returns-clause-goes c =
    let is = rw c.in-Ended.is at c.in_ok-end.ensures in
    (refl, subst (λ (found : Option RunOutcome). IsSome found) (sym (end_at (point_of c.args.serial.now) (need.Ended c.in-Ended.field-0) (sym is))) refl)
