use Rattle.std.proofs.Common.{◌≡◌}
use Rattle.phase_workers.proofs.dispatched_phase.DispatchedPhase.await_post.Given as goal

abbrev pub invariant-loop : goal.invariant-loop
invariant-loop g l = l.self.shared ≡ l.fn.self.shared
