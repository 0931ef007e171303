use Rattle.std.proofs.Common.{◌∙◌, arith, ap, sym, ◌<◌}
use Rattle.claim_table.specs.Seat.{Row, SeatState}
use Rattle.claim_table.proofs.Steps.{look_allows}
use Rattle.claim_table.proofs.Seats.{seat_saw}
use Rattle.claim_table.proofs.draws.Draws.least.Goals as goal

pub load-found-requires : goal.load-found-requires
load-found-requires c =
    let row = ap (λ (s : SeatState). s.row) c.seat.view_is ∙ c.requires ∙ sym c.self.view_is in
    (ap (λ (r : Row). r.table) row, omega (arith, c.self.invariant), look_allows _ _ _ _ c.seat.invariant.one)

pub invariant_of-seat-2 : goal.invariant_of-seat-2
invariant_of-seat-2 c =
    let row = ap (λ (s : SeatState). s.row) c.seat.view_is ∙ c.requires ∙ sym c.self.view_is in
    let jobs = ap (λ (r : Row). r.size.jobs) row in
    let below : c.load-found.result < c.seat.inside.seat.me.0.size.jobs = omega (arith, c.from.ensures, c.if-found-from.false) in
    let told = c.load-found.ensures.2 in
    rw c.mark.ensures (seat_saw _ _ _ _ _ _ c.seat.invariant told.slots _ (told.some below))
