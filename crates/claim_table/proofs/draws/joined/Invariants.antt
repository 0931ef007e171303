use Rattle.std.proofs.Common.{◌≡◌, ◌+◌, ◌<◌, [], ◌∷◌, map, length}
use Rattle.std.specs.Prelude.{All}
use Rattle.claim_table.specs.Logs.{tally, IsSame}
use Rattle.claim_table.specs.Seat.{SeatState}
use Rattle.claim_table.proofs.draws.joined.Given as goal

abbrev pub invariant-loop-next : goal.invariant-loop-next
invariant-loop-next l = record {
  row : All (λ (seat : SeatState). seat.row.table ≡ l.row.table_id) l.seats.items;
  whole : (l.whole.table_id ≡ l.row.table_id) × (l.whole.me.1 ≡ []);
  seats : l.whole.me.0.log.seats + length l.seats.items ≡ length l.fn.seats.items;
  some : 0 < l.whole.me.0.log.seats;
  same : IsSame (tally (l.whole.me.0.log ∷ map (λ (seat : SeatState). seat.log) l.seats.items)) (tally (map (λ (seat : SeatState). seat.log) l.fn.seats.items));
}

abbrev pub decreases-loop-next : goal.decreases-loop-next
decreases-loop-next l = length l.seats.items
