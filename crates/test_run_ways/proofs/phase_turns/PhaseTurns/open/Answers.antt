use Rattle.std.proofs.Common.{◌≡◌, ◌∙◌, ap}
use Rattle.paged_memory.specs.PageMap.{memory_of_pages}
use Rattle.paged_memory.specs.Snapshot.{cells_of}
use Rattle.token.specs.Point.{Point}
use Rattle.token.specs.RunInTurn.{point_of}
use Rattle.worker_pool.specs.Jobs.{jobs_in}
use Rattle.worker_pool.proofs.Ends.{jobs_everywhere}
use Rattle.test_run_ways.proofs.phase_turns.PhaseTurns.open.Goals as goal

pub invariant_of-result : goal.invariant_of-result
invariant_of-result g c =
    let point : Point = point_of c.args.serial in
    let jobs : c.in_ok-jobs.jobs.items ≡ jobs_in g.B.OfRun.setup point.phase point.base_threads c.in_ok-threads.threads.items =
    c.in_ok-jobs.ensures ∙ (λ i. jobs_in (c.requires i) point.phase point.base_threads (c.as_slice-2.ensures.value i)) in
    let memory : cells_of c.in_ok-base.base ≡ point.base = ap memory_of_pages c.in_ok-base.ensures.pages ∙ c.base.ensures in
    record {
      setup_is = c.requires;
      jobs_are = jobs_everywhere g.B.OfRun.setup point c.need.ensures.follows.0 c.phase-number.result c.in_ok-threads.threads.items c.in_ok-jobs.jobs.items (cells_of c.in_ok-base.base) c.need.ensures.follows.1 c.requires c.phase-number.ensures memory jobs;
    }
