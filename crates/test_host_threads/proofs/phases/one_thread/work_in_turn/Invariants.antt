use Rattle.std.proofs.Common.{◌≡◌, ◌+◌, ℕ, length, All}
use Rattle.claim_table.specs.Logs.{new_log}
use Rattle.claim_table.specs.Seat.{SeatState}
use Rattle.parallel_phase.specs.Work.{IsWorkOf}
use Rattle.test_host_threads.proofs.phases.one_thread.work_in_turn.Given as goal

abbrev pub invariant-loop-seat : goal.invariant-loop-seat
invariant-loop-seat l = record {
  seats : All (λ (seat : SeatState). (seat.row ≡ l.phase.row) × (seat.log ≡ new_log 1)) l.seat-iterator.rest.items;
  works : All (IsWorkOf l.phase) l.works.items;
  long : length l.works.items + length l.seat-iterator.rest.items ≡ length l.fn.seats.items;
}
