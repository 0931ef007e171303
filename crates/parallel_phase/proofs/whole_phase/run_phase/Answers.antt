use Rattle.std.proofs.Common.{◌≡◌, ◌∙◌, arith, refl, ap, sym, subst, ℕ, drop, length, List, All}
use Rattle.std.proofs.lemmas.List.Elements.{All-map}
use Rattle.std.proofs.lemmas.List.FromFn.{length-map-range_with_len}
use Rattle.claim_table.specs.Logs.{new_log}
use Rattle.claim_table.specs.declared.size.Size.{Size}
use Rattle.claim_table.specs.Seat.{SeatState}
use Rattle.parallel_phase.specs.Work.{WorkState, IsUnbegun}
use Rattle.parallel_phase.proofs.Fates.{written_back}
use Rattle.parallel_phase.proofs.Scheduling.{led}
use Rattle.parallel_phase.proofs.whole_phase.run_phase.Goals as goal
use Rattle.parallel_phase.proofs.whole_phase.run_phase.Goals.{After-as_mut_slice}

pub unbegun-requires : goal.unbegun-requires
unbegun-requires g c =
    let fresh : SeatState → Type 0 = λ seat. (seat.row ≡ c.in_ok-phase.phase.row) × (seat.log ≡ new_log 1) in
    subst (λ (seats : List SeatState). All fresh seats) (sym c.in_ok-phase.ensures.seats) (All-map fresh _ _ (λ place number below. (refl, refl)))

-- there are as many works as seats
works_are : (g : _) (c : After-as_mut_slice g) → length c.as_mut_slice.result.now ≡ c.in_ok-phase.phase.row.size.seats
works_are g c =
    let fresh : ℕ → SeatState = λ number. record { row = c.in_ok-phase.phase.row; number = number; log = new_log 1 } in
    let given : length c.in_ok-phase.seats.items ≡ c.seats_for.result = ap length c.in_ok-phase.ensures.seats ∙ length-map-range_with_len fresh 0 c.seats_for.result in
    let size : c.in_ok-phase.phase.row.size.seats ≡ c.seats_for.result = ap (λ (s : Size). s.seats) c.in_ok-phase.ensures.size in
    omega (arith, given, size, c.in_ok-works.ensures.long, ap length c.as_mut_slice.ensures.value)

pub work_all-requires-after_bounds : goal.work_all-requires-after_bounds
work_all-requires-after_bounds g c ks bounds =
    let size : c.in_ok-phase.phase.row.size.seats ≡ c.seats_for.result = ap (λ (s : Size). s.seats) c.in_ok-phase.ensures.size in (
      omega (arith, works_are g c, size, c.seats_for.ensures.bounds.0),
      subst (λ (works : List WorkState). All (IsUnbegun c.in_ok-phase.phase) works) (sym c.as_mut_slice.ensures.value) c.in_ok-works.ensures.works,
    )

pub collect-requires-clause-all : goal.collect-requires-clause-all
collect-requires-clause-all g c =
    let at = (goal.at.collect-requires-clause-all g c).After-as_mut_slice in
    let same = written_back c.work_all.new.works _ c.in_ok-works.works.len (omega (arith, c.work_all.ensures.0, c.as_mut_slice.ensures.len)) in
    ap length same ∙ (c.work_all.ensures.0 ∙ works_are g at)

pub returns-clause-events : goal.returns-clause-events
returns-clause-events g c =
    let at = (goal.at.returns-clause-events g c).After-as_mut_slice in
    let same = written_back c.work_all.new.works (drop (length c.work_all.new.works) c.in_ok-works.works.items) c.in_ok-works.works.len (omega (arith, c.work_all.ensures.0, c.as_mut_slice.ensures.len)) in
    let size : c.in_ok-phase.phase.row.size.seats ≡ c.seats_for.result = ap (λ (s : Size). s.seats) c.in_ok-phase.ensures.size in
    led _ _ _ _ _ _ _ c.collect.result c.in_ok-phase.ensures.jobs.0 c.in_ok-phase.ensures.jobs.1 (omega (arith, ap length same, c.work_all.ensures.0, works_are g at, size, c.seats_for.ensures.bounds.1)) c.collect.ensures.events
