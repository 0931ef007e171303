use Rattle.phase_workers.specs.Sharing.{KeepsPhase}
use Rattle.phase_workers.proofs.dispatched_phase.DispatchedPhase.collect.Given as goal

abbrev pub invariant-loop : goal.invariant-loop
invariant-loop g l = KeepsPhase l.fn.self l.self
