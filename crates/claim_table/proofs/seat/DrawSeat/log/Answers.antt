use Rattle.std.proofs.Common.{◌≡◌, ◌∙◌, ◌<◌, ap, subst, rules}
use Rattle.claim_table.specs.Seat.{SeatState, done}
use Rattle.claim_table.proofs.Seats.{seat_done}
use Rattle.claim_table.proofs.seat.DrawSeat.log.Goals as goal

pub returns-clause-log : goal.returns-clause-log
returns-clause-log c =
    let is = seat_done _ _ _ _ _ c.self.invariant ∙ ap (λ (s : SeatState). done s.log) c.self.view_is in
    let drawn : c.extend_from_slice.new.self.items ≡ c.self.inside.drawn.items = search (rules, c.in_ok-extend_from_slice.ensures.items, c.in_ok-drawn.ensures.items, c.as_slice.ensures.value) in
    c.new.ensures ∙ rw (drawn, c.in_ok-noted.ensures, c.in_ok-seen.ensures) is

pub returns-clause-numbered : goal.returns-clause-numbered
returns-clause-numbered c = subst (λ (s : SeatState). s.number < s.row.size.seats) c.self.view_is c.self.invariant.numbered
