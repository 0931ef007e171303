use Rattle.std.proofs.Common.{◌≡◌, ◌∙◌, rules, arith, ap, sym, subst, suc, length, List, All}
use Rattle.std.proofs.lemmas.List.Elements.{All-push}
use Rattle.claim_table.specs.Logs.{new_log}
use Rattle.claim_table.specs.Seat.{SeatState}
use Rattle.parallel_phase.specs.Work.{WorkState, IsWorkOf}
use Rattle.test_host_threads.proofs.phases.one_thread.work_in_turn.Goals as goal

pub work-requires : goal.work-requires
work-requires c =
    let fresh : SeatState → Type 0 = λ seat. (seat.row ≡ c.args.phase.now.row) × (seat.log ≡ new_log 1) in
    let all = subst (λ (seats : List SeatState). All fresh seats) c.in-Some.ensures.steps.0 c.loop-seat.invariant.seats in
    all 0 c.in-Some.seat (omega arith)

pub loop-seat-preserved : goal.loop-seat-preserved
loop-seat-preserved c =
    let kept = c.loop-seat.invariant in
    let fresh : SeatState → Type 0 = λ seat. (seat.row ≡ c.args.phase.now.row) × (seat.log ≡ new_log 1) in
    let all = subst (λ (seats : List SeatState). All fresh seats) c.in-Some.ensures.steps.0 kept.seats in
    record {
      seats = λ place seat below. all (suc place) seat (omega arith);
      works = subst (λ (works : List WorkState). All (IsWorkOf c.args.phase.now) works) (sym c.in_ok-push.ensures.items) (All-push (IsWorkOf c.args.phase.now) _ _ kept.works c.work.ensures.of_phase);
      long = let split = ap length c.in-Some.ensures.steps.0 in omega (arith, kept.long, split, c.in_ok-push.ensures.len);
    }
