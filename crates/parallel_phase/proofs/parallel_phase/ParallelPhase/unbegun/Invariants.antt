use Rattle.std.proofs.Common.{◌≡◌, ◌+◌, length, All}
use Rattle.claim_table.specs.Logs.{new_log}
use Rattle.claim_table.specs.Seat.{SeatState}
use Rattle.parallel_phase.specs.Work.{IsUnbegun}
use Rattle.parallel_phase.proofs.parallel_phase.ParallelPhase.unbegun.Given as goal

abbrev pub invariant-loop-seat : goal.invariant-loop-seat
invariant-loop-seat l = record {
  seats : All (λ (seat : SeatState). (seat.row ≡ l.self.row) × (seat.log ≡ new_log 1)) l.seats.items;
  works : All (IsUnbegun l.self) l.works.items;
  long : length l.works.items + length l.seats.items ≡ length l.fn.seats.items;
}

abbrev pub decreases-loop-seat : goal.decreases-loop-seat
decreases-loop-seat l = length l.seats.items
