use Rattle.std.proofs.Common.{◌∙◌, arith, ap}
use Rattle.atomic_table.specs.Table.{Me}
use Rattle.claim_table.specs.declared.seat_view.SeatView.{SeatView}
use Rattle.claim_table.proofs.Steps.{joins_on}
use Rattle.claim_table.proofs.Gathers.{gather_first, gather_next, rows_split}
use Rattle.claim_table.proofs.draws.joined.Goals as goal

pub loop-next-init : goal.loop-next-init
loop-next-init c =
    let pop = c.in-Some.ensures in
    let whole = c.into_seat-whole.ensures in
    let rows = rows_split _ _ _ _ pop.items c.requires.row in
    record {
      row = rows.0;
      whole = (whole.0 ∙ rows.1, whole.4);
      seats = omega (arith, whole.3, pop.len);
      some = omega (arith, whole.3);
      same = gather_first _ _ _ _ pop.items whole.2;
    }

pub join_seat-requires : goal.join_seat-requires
join_seat-requires c =
    let kept = c.loop-next.invariant in
    let pop = c.in-Some-pop.ensures in
    let next = c.into_seat.ensures in
    (kept.whole.0, next.0 ∙ (rows_split _ _ _ _ pop.items kept.row).1, next.4, c.requires.words, joins_on _ _ _ _ _ _ kept.some)

pub loop-next-preserved : goal.loop-next-preserved
loop-next-preserved c =
    let kept = c.loop-next.invariant in
    let pop = c.in-Some-pop.ensures in
    let next = c.into_seat.ensures in
    let joined = c.join_seat.ensures in
    let log = ap (λ (m : Me (Unit {0}) SeatView). m.0.log) joined.2 in
    let seats = ap (λ (m : Me (Unit {0}) SeatView). m.0.log.seats) joined.2 in
    record {
      row = (rows_split _ _ _ _ pop.items kept.row).0;
      whole = (joined.0 ∙ kept.whole.0, ap (λ (m : Me (Unit {0}) SeatView). m.1) joined.2 ∙ kept.whole.1);
      seats = omega (arith, seats, next.3, pop.len, kept.seats);
      some = omega (arith, seats, kept.some);
      same = gather_next _ _ _ _ _ _ _ pop.items next.2 log kept.same;
    }
