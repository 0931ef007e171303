use Rattle.std.proofs.Common.{◌≡◌, ◌∙◌, arith, ap, sym, subst, List, Some, All}
use Rattle.std.proofs.lemmas.List.Elements.{All-push, All-pop}
use Rattle.claim_table.specs.Logs.{new_log}
use Rattle.claim_table.specs.Seat.{SeatState}
use Rattle.parallel_phase.specs.Work.{WorkState, IsUnbegun}
use Rattle.parallel_phase.proofs.parallel_phase.ParallelPhase.unbegun.Goals as goal

pub loop-seat-preserved : goal.loop-seat-preserved
loop-seat-preserved c =
    let kept = c.loop-seat.invariant in
    let seats = All-pop (λ (seat : SeatState). (seat.row ≡ c.args.self.now.row) × (seat.log ≡ new_log 1)) _ _ (Some c.in-Some.seat) c.in-Some.ensures.items kept.seats in
    let work : IsUnbegun c.args.self.now c.new.result = record {
      row = ap (λ (w : WorkState). w.seat.row) c.new.ensures ∙ seats.1.0;
      refused = ap (λ (w : WorkState). w.refused) c.new.ensures;
      outcomes = ap (λ (w : WorkState). w.outcomes) c.new.ensures;
    } in
    record {
      seats = seats.0;
      works = subst (λ (works : List WorkState). All (IsUnbegun c.args.self.now) works) (sym c.in_ok-push.ensures.items) (All-push (IsUnbegun c.args.self.now) _ _ kept.works work);
      long = omega (arith, kept.long, c.in-Some.ensures.len, c.in_ok-push.ensures.len);
    }
