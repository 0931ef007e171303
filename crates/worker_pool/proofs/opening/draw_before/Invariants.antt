use Rattle.std.proofs.Common.{◌≡◌}
use Rattle.worker_pool.proofs.opening.draw_before.Given as goal

abbrev pub invariant-loop-name : goal.invariant-loop-name
invariant-loop-name g l = l.seat.row ≡ l.shared.phase.row
