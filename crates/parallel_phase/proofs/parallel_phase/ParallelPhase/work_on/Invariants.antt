use Rattle.std.proofs.Common.{◌≡◌, ◌-◌, false, length}
use Rattle.paged_memory.specs.Snapshot.{cells_of}
use Rattle.parallel_phase.specs.Work.{AreOver}
use Rattle.parallel_phase.proofs.parallel_phase.ParallelPhase.work_on.Given as goal

abbrev pub invariant-loop : goal.invariant-loop
invariant-loop g l = record {
  row : (l.work.seat.row ≡ l.self.row) × (l.work.seat.number ≡ l.fn.work.seat.number);
  over : (l.work.refused ≡ false) × AreOver l.self.jobs (cells_of l.self.base) l.work.outcomes;
}

abbrev pub decreases-loop : goal.decreases-loop
decreases-loop g l = length l.self.jobs - length l.work.seat.log.drawn
