use Rattle.std.proofs.Common.{◌∙◌, arith, ap, sym, ◌<◌}
use Rattle.claim_table.specs.Seat.{Row, SeatState}
use Rattle.claim_table.specs.Logs.{times}
use Rattle.claim_table.proofs.Steps.{note_allows}
use Rattle.claim_table.proofs.Seats.{seat_noted}
use Rattle.claim_table.proofs.draws.Draws.note.Goals as goal

pub fetch_min-requires : goal.fetch_min-requires
fetch_min-requires c =
    let row = ap (λ (s : SeatState). s.row) c.seat.view_is ∙ c.requires.row ∙ sym c.self.view_is in
    let same = ap (λ (s : SeatState). times c.args.number s.log.drawn) c.seat.view_is in
    let asked = c.requires.drawn in
    let drew : 0 < times c.args.number c.seat.inside.seat.me.0.log.drawn = omega arith in
    (ap (λ (r : Row). r.table) row, omega (arith, c.self.invariant), rw c.from.ensures (note_allows _ _ _ _ _ c.seat.invariant.one drew))

pub invariant_of-seat : goal.invariant_of-seat
invariant_of-seat c =
    let same = ap (λ (s : SeatState). times c.args.number s.log.drawn) c.seat.view_is in
    let asked = c.requires.drawn in
    let drew : 0 < times c.args.number c.seat.inside.seat.me.0.log.drawn = omega arith in
    let told = rw c.from.ensures at c.fetch_min.ensures.2 in
    rw c.mark.ensures (seat_noted _ _ _ _ _ _ c.seat.invariant told.slots _ told.noted drew)
