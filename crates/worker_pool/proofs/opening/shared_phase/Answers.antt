use Rattle.std.proofs.Common.{◌≡◌, ◌∙◌, List, length, sym, ap, subst, arith}
use Rattle.std.proofs.lemmas.List.{length-map}
use Rattle.std.proofs.lemmas.List.FromFn.{length-map-range_with_len}
use Rattle.std.specs.Prelude.{All}
use Rattle.claim_table.specs.Seat.{SeatState}
use Rattle.token.specs.Point.{Point}
use Rattle.token.specs.RunInTurn.{point_of}
use Rattle.token.specs.Segments.{segment_in}
use Rattle.phase_workers.specs.Sharing.{SharedState}
use Rattle.worker_pool.specs.Jobs.{jobs_in}
use Rattle.worker_pool.proofs.Ends.{end_of_job, jobs_everywhere}
use Rattle.worker_pool.proofs.Seats.{all_of_row}
use Rattle.worker_pool.proofs.opening.shared_phase.Goals as goal

pub new-requires : goal.new-requires
new-requires g c =
    let point : Point = point_of c.args.serial.now in
    let given : c.in_ok-phase.phase.jobs ≡ jobs_in point.setup point.phase point.base_threads c.as_slice-2.result.now =
    c.in_ok-phase.ensures.jobs.0 ∙ c.as_slice-3.ensures.value ∙ c.in_ok-jobs.ensures in
    let jobs : c.in_ok-phase.phase.jobs ≡ jobs_in g.B.OfRun.setup point.phase point.base_threads c.in_ok-threads.threads.items =
    given ∙ (λ i. jobs_in (c.requires.run.setup i) point.phase point.base_threads (c.as_slice-2.ensures.value i)) in
    record {
      as_many = sym (ap length jobs ∙ length-map c.in_ok-threads.threads.items (segment_in g.B.OfRun.setup point.phase point.base_threads));
      facts = λ k name end at is. end_of_job g.B.OfRun.setup _ _ _ _ k name end
          (jobs_everywhere g.B.OfRun.setup point c.requires.run.asked.0 _ _ _ _ c.requires.run.asked.1 c.requires.run.setup c.phase.ensures (c.in_ok-phase.ensures.jobs.1 ∙ c.base.ensures) jobs) at is;
    }

pub returns-clause-some : goal.returns-clause-some
returns-clause-some g c =
    let many = ap length c.in_ok-phase.ensures.seats ∙ length-map-range_with_len _ 0 c.args.seats in
    omega (arith, many, c.requires.seats.0)

pub returns-clause-seats : goal.returns-clause-seats
returns-clause-seats g c k d within =
    let all = subst (λ (seats : List SeatState). All (λ (s : SeatState). s.row ≡ c.in_ok-phase.phase.row) seats) (sym c.in_ok-phase.ensures.seats) (all_of_row c.in_ok-phase.phase.row _) in
    all k d within ∙ ap (λ (s : SharedState). s.phase.row) (sym c.new.ensures)
