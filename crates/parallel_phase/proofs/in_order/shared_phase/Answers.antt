use Rattle.std.proofs.Common.{◌≡◌, ◌∙◌, List, length, ap, refl, sym, subst}
use Rattle.std.proofs.lemmas.List.Elements.{All-map, All-drop}
use Rattle.std.proofs.lemmas.List.FromFn.{length-map-range_with_len}
use Rattle.std.specs.Prelude.{All, slice_get}
use Rattle.claim_table.specs.Seat.{SeatState}
use Rattle.phase_workers.specs.Sharing.{SharedState}
use Rattle.parallel_phase.proofs.Names.{end_by_name, name_is}
use Rattle.parallel_phase.proofs.in_order.shared_phase.Goals as goal

pub new-requires : goal.new-requires
new-requires g c =
    let jobs = c.in_ok-shared.ensures.jobs in
    record {
      as_many = ap length c.in_ok-names.ensures ∙ (length-map-range_with_len (λ n. n) 0 (length c.args.jobs.now) ∙ ap length (sym jobs.0));
      facts = λ k name end at is.
          let name_at = ap (λ names. slice_get names k) (sym c.in_ok-names.ensures) ∙ at in
          end_by_name _ _ _ _ k name end (jobs.0 ∙ sym c.requires.named.0) (jobs.1 ∙ sym c.requires.named.1) (name_is _ k name name_at) is;
    }

pub returns-clause-seats : goal.returns-clause-seats
returns-clause-seats g c k d within =
    let here : SeatState → Type 0 = λ seat. seat.row ≡ c.in_ok-shared.shared.row in
    let all = subst (λ (seats : List SeatState). All here seats) (sym c.in_ok-shared.ensures.seats) (All-map here _ _ (λ place number below. refl)) in
    let rest = subst (λ (seats : List SeatState). All here seats) (sym c.remove-seat.ensures.by_index.2) (All-drop here 1 _ all) in
    rest k d within ∙ ap (λ (s : SharedState). s.phase.row) (sym c.new.ensures)
