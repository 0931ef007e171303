use Rattle.std.proofs.Common.{◌≡◌, ◌∙◌, ◌-◌, ◌+◌, ◌<◌, ◌++◌, ◌∷◌, [], List, map, arith, ap, sym, ℕ}
use Rattle.std.proofs.lemmas.List.FromFn.{map-range_with_len_more}
use Rattle.std.specs.List.{range_with_len}
use Rattle.claim_table.specs.declared.log.Log.{Log}
use Rattle.claim_table.specs.Logs.{new_log}
use Rattle.atomic_table.specs.Table.{Me}
use Rattle.claim_table.specs.declared.seat_view.SeatView.{SeatView}
use Rattle.claim_table.specs.Seat.{SeatState}
use Rattle.claim_table.proofs.Steps.{opens, parts_off}
use Rattle.claim_table.proofs.draws.Draws.new.Goals as goal

pub of_words-requires : goal.of_words-requires
of_words-requires c = rw c.from.ensures (opens _ _ c.requires.0 c.requires.2)

pub split_seat-seat-requires : goal.split_seat-seat-requires
split_seat-seat-requires c =
    let rest = c.loop-number.invariant.rest in
    let made = c.in_ok-table.ensures in
    let seats = ap (λ (l : Log). l.seats) rest.2 in
    let more : 0 < c.loop-number.rest.me.0.log.seats = omega (arith, c.loop-number-test.true) in
    (rest.0, omega (arith, made.0), rw made.5 (parts_off _ _ _ _ rest.1 more (rest.2 ∙ ap new_log (sym seats))))

pub loop-number-preserved : goal.loop-number-preserved
loop-number-preserved c =
    let kept = c.loop-number.invariant in
    let part = c.split_seat-seat.ensures in
    let seats = ap (λ (l : Log). l.seats) kept.rest.2 in
    let less : c.loop-number.rest.me.0.log.seats - 1 ≡ c.args.seats - (c.loop-number.number + 1) = omega arith in
    let new : c.new.result ≡ record { row = record { table = c.in_ok-table.table.shared.table_id; size = record { jobs = c.args.jobs; seats = c.args.seats } }; number = c.loop-number.number; log = new_log 1 } = c.new.ensures ∙ (λ i. record { row = record { table = (part.3 ∙ kept.rest.0) i; size = (ap (λ (m : Me (Unit {0}) SeatView). m.0.size) part.4 ∙ kept.rest.1) i }; number = c.loop-number.number; log = new_log 1 }) in
    let seat = λ (number : ℕ). let s : SeatState = record { row = record { table = c.in_ok-table.table.shared.table_id; size = record { jobs = c.args.jobs; seats = c.args.seats } }; number = number; log = new_log 1 } in s in
    let n : ℕ = c.loop-number.number in
    record {
      rest = (part.0 ∙ kept.rest.0, ap (λ (m : Me (Unit {0}) SeatView). m.0.size) part.2 ∙ kept.rest.1, ap (λ (m : Me (Unit {0}) SeatView). m.0.log) part.2 ∙ ap new_log less, ap (λ (m : Me (Unit {0}) SeatView). m.1) part.2 ∙ kept.rest.3);
      made = c.in_ok-push.ensures.items ∙ ap (λ (xs : List SeatState). xs ++ c.new.result ∷ []) kept.made ∙ ap (λ (s : SeatState). map seat (range_with_len 0 n) ++ s ∷ []) new ∙ sym (map-range_with_len_more seat 0 n n (omega arith));
    }
