use Rattle.phase_workers.specs.Hands.{Has}
use Rattle.phase_workers.proofs.worker_channels.WorkerChannels.work_at.Given as goal

abbrev pub invariant-loop : goal.invariant-loop
invariant-loop g l = Has l.shared.phase l.hand
