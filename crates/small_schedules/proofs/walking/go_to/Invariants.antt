use Rattle.std.proofs.Common.{◌≡◌, ◌≤◌}
use Rattle.token.specs.RunInTurn.{point_of}
use Rattle.small_schedules.proofs.walking.go_to.Given as goal

abbrev pub invariant-loop : goal.invariant-loop
invariant-loop g l = record { setup : (point_of l.serial).setup ≡ (point_of l.fn.serial).setup; within : (point_of l.serial).phase ≤ l.phase }
