use Rattle.std.proofs.Common.{◌≡◌}
use Rattle.token.specs.RunInTurn.{point_of}
use Rattle.small_schedules.proofs.walking.first_shared.Given as goal

abbrev pub invariant-loop : goal.invariant-loop
invariant-loop g l = (point_of l.serial).setup ≡ (point_of l.fn.serial).setup
