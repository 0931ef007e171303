use Rattle.std.proofs.Common.{◌≡◌, ◌∙◌, ap, sym, subst, ◌<◌, List, All, length, map, arith}
use Rattle.paged_memory.specs.Snapshot.{cells_of}
use Rattle.claim_table.specs.Logs.{tally}
use Rattle.claim_table.specs.Draws.{AreDraws, IsDrawnOut}
use Rattle.claim_table.specs.Seat.{Row, SeatState}
use Rattle.phase_jobs.specs.SharedJobs.{PhaseState}
use Rattle.parallel_phase.specs.Events.{AreByEvents}
use Rattle.parallel_phase.specs.Outcomes.{AreFates, filed}
use Rattle.parallel_phase.specs.declared.outcome.Outcome.{Outcome}
use Rattle.parallel_phase.proofs.Fates.{AreWorks, rows_of, drawn_inside, fates, filed_length, written_back, drawn_of}
use Rattle.parallel_phase.proofs.Scheduling.{knows, scheduled}
use Rattle.parallel_phase.proofs.parallel_phase.ParallelPhase.collect.Goals as goal
use Rattle.parallel_phase.proofs.parallel_phase.ParallelPhase.collect.Goals.{After-gather}

pub gather-requires-clause-row : goal.gather-requires-clause-row
gather-requires-clause-row c = rows_of _ _ _ _ c.in_ok-seats.ensures.seats (ap (λ (p : PhaseState). p.row) (sym c.self.view_is) ∙ sym c.into_draws.ensures) c.requires.of_phase

works_are : (c : After-gather) → AreWorks c.args.self c.args.works.items
works_are c =
    let size : length c.args.self.jobs ≡ c.into_draws.result.size.jobs = ap (λ (p : PhaseState). length p.jobs) (sym c.self.view_is) ∙ c.self.invariant.0 ∙ ap (λ (row : Row). row.size.jobs) (sym c.into_draws.ensures) in
    let seats = c.in_ok-seats.ensures.seats in
    record {
      some = let row = ap (λ (p : PhaseState). p.row.size.seats) c.self.view_is in omega (arith, row, c.self.invariant.1, c.requires.all);
      whole = c.in_ok-seats.ensures.whole;
      of_phase = c.requires.of_phase;
      word0 = c.gather.ensures.draws.0;
      word1 = c.gather.ensures.draws.1;
      draws = rw size (subst (λ (all : List SeatState). AreDraws c.into_draws.result.size.jobs c.gather.ensures.draws.0 c.gather.ensures.draws.1 (tally (map (λ (seat : SeatState). seat.log) all))) seats c.gather.ensures.draws.2);
      complete = rw size (subst (λ (all : List SeatState). IsDrawnOut c.into_draws.result.size.jobs (tally (map (λ (seat : SeatState). seat.log) all))) seats c.gather.ensures.complete);
    }

long_is : (c : After-gather) → length c.in_ok-outcomes.outcomes.items ≡ length c.args.self.jobs
long_is c = omega (arith, ap length c.jobs.ensures.jobs, c.in_ok-outcomes.ensures.0)

pub file-requires : goal.file-requires
file-requires c place job below =
    let drawn = c.in_ok-seats.ensures.drawn in
    let inside = subst (λ ds. All (λ d. d.number < length c.args.self.jobs) ds) (sym drawn) (drawn_inside _ _ (works_are (goal.at.file-requires c).After-gather)) place job below in
    omega (arith, inside, long_is (goal.at.file-requires c).After-gather, ap length c.as_mut_slice.ensures.value)

pub returns : goal.returns
returns c =
    let at = (goal.at.returns c).After-gather in
    let now = c.file.ensures ∙ (ap (λ (os : List Outcome). filed os c.in_ok-seats.drawn.items) c.as_mut_slice.ensures.value ∙ ap (λ ds. filed c.in_ok-outcomes.outcomes.items ds) c.in_ok-seats.ensures.drawn) in
    let long = ap length now ∙ filed_length c.in_ok-outcomes.outcomes.items (drawn_of c.args.works.items) in
    let same = written_back c.file.new.outcomes _ _ (omega (arith, long, c.as_mut_slice.ensures.len, ap length c.as_mut_slice.ensures.value)) in
    let jobs = c.args.self.jobs in
    let memory = cells_of c.args.self.base in
    let are = fates _ _ _ (works_are at) (long_is at) in
    let numbered = subst (λ (seats : List SeatState). All (λ (seat : SeatState). seat.number < c.into_draws.result.size.seats) seats) c.in_ok-seats.ensures.seats c.in_ok-gather.ensures.numbered in
    let seats = (
    let row = ap (λ (p : PhaseState). p.row.size.seats) c.self.view_is in
    let e : c.into_draws.result.size.seats ≡ length c.args.works.items = omega (arith, row, ap (λ (r : Row). r.size.seats) c.into_draws.ensures, c.requires.all) in
    e
    ) in
    let events = scheduled jobs memory c.args.works.items _ are.long (knows c.args.self c.args.works.items c.in_ok-outcomes.outcomes.items (works_are at) (long_is at) c.into_draws.result.size.seats seats numbered are) in
    record {
      fates = subst (λ (os : List Outcome). AreFates jobs memory os) (sym (same ∙ now)) are;
      events = subst (λ (os : List Outcome). AreByEvents jobs memory c.args.works.items os) (sym (same ∙ now)) events;
    }
