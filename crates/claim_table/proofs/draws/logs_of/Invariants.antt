use Rattle.std.proofs.Common.{◌≡◌, ◌<◌, map, take, All}
use Rattle.claim_table.specs.Logs.{NotesDrawn}
use Rattle.claim_table.specs.Seat.{SeatState, done}
use Rattle.claim_table.proofs.draws.logs_of.Given as goal

abbrev pub invariant-loop-seat : goal.invariant-loop-seat
invariant-loop-seat l = record {
  logs : l.logs.items ≡ map (λ (seat : SeatState). done seat.log) (take l.seat-index l.seats);
  numbered : All (λ (seat : SeatState). seat.number < seat.row.size.seats) (take l.seat-index l.seats);
  notes : All (λ (seat : SeatState). NotesDrawn seat.log) (take l.seat-index l.seats);
}
