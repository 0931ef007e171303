use Rattle.std.proofs.Common.{◌∙◌, ◌<◌, [], ◌∷◌, ◌++◌, ap, sym, subst, List, All, get_or, take}
use Rattle.std.proofs.lemmas.List.{map_more, take_more}
use Rattle.std.proofs.lemmas.List.Elements.{All-push}
use Rattle.claim_table.specs.Logs.{NotesDrawn}
use Rattle.claim_table.specs.Seat.{SeatState, done}
use Rattle.claim_table.proofs.draws.logs_of.Goals as goal

pub loop-seat-preserved : goal.loop-seat-preserved
loop-seat-preserved c =
    let kept = c.loop-seat.invariant in
    let is_below : SeatState → Type 0 = λ seat. seat.number < seat.row.size.seats in
    let is_noted : SeatState → Type 0 = λ seat. NotesDrawn seat.log in
    let seats = c.args.seats.now in
    let seat = c.seat-item.result in
    let log = c.in_ok-log.ensures.log ∙ ap (λ (s : SeatState). done s.log) c.seat-item.is in
    let here = subst is_below c.seat-item.is c.log.ensures.numbered in
    record {
      logs = c.in_ok-push.ensures.items ∙ (λ i. kept.logs i ++ log i ∷ []) ∙ sym (map_more (λ (s : SeatState). done s.log) seats c.loop-seat.seat-index seat c.loop-seat-test.true);
      numbered = subst (λ (some : List SeatState). All is_below some) (sym (take_more seats c.loop-seat.seat-index seat c.loop-seat-test.true)) (All-push is_below (take c.loop-seat.seat-index seats) (get_or seats c.loop-seat.seat-index seat) kept.numbered here);
      notes = subst (λ (some : List SeatState). All is_noted some) (sym (take_more seats c.loop-seat.seat-index seat c.loop-seat-test.true)) (All-push is_noted (take c.loop-seat.seat-index seats) (get_or seats c.loop-seat.seat-index seat) kept.notes (subst is_noted c.seat-item.is c.log.ensures.notes));
    }
