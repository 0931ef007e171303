use Rattle.std.proofs.Common.{◌≡◌, ◌∙◌, arith, ap, sym, ◌<◌}
use Rattle.claim_table.specs.Seat.{Row, SeatState}
use Rattle.claim_table.proofs.Steps.{draw_allows}
use Rattle.claim_table.proofs.Seats.{seat_drew}
use Rattle.claim_table.proofs.draws.Draws.draw.Goals as goal

pub fetch_add-found-requires : goal.fetch_add-found-requires
fetch_add-found-requires c =
    let seat = c.seat.invariant in
    let row = ap (λ (s : SeatState). s.row) c.seat.view_is ∙ c.requires ∙ sym c.self.view_is in
    let going : c.seat.inside.seat.me.0.log.ended ≡ 0 = rw c.if-seat.false at seat.ended_is in
    (ap (λ (r : Row). r.table) row, omega (arith, c.self.invariant), draw_allows _ _ _ _ seat.one going)

pub invariant_of-seat-2 : goal.invariant_of-seat-2
invariant_of-seat-2 c =
    let row = ap (λ (s : SeatState). s.row) c.seat.view_is ∙ c.requires ∙ sym c.self.view_is in
    let jobs = ap (λ (r : Row). r.size.jobs) row in
    let below : c.fetch_add-found.result < c.seat.inside.seat.me.0.size.jobs = omega (arith, c.from.ensures, c.if-found-from.false) in
    let told = c.fetch_add-found.ensures.2 in
    rw c.push.ensures.items (seat_drew _ _ _ _ _ _ c.seat.invariant told.slots _ (told.drawn below).0 below)
