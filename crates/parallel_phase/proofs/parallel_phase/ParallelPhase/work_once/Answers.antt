use Rattle.std.proofs.Common.{sym, subst}
use Rattle.paged_memory.specs.Snapshot.{cells_of}
use Rattle.parallel_phase.specs.Work.{WorkState, AreOver}
use Rattle.parallel_phase.proofs.Works.{outcomes_more, over_more}
use Rattle.parallel_phase.proofs.parallel_phase.ParallelPhase.work_once.Goals as goal

pub invariant_of-work : goal.invariant_of-work
invariant_of-work g c going =
    let works = rw c.in-Ok-Some.field-0-is at c.in-Ok-Some.ensures.some in
    rw c.in-Ok.ensures.items (outcomes_more _ _ _ _ _ _ works (c.work.invariant going))

pub returns-in-Ok-clause-over : goal.returns-in-Ok-clause-over
returns-in-Ok-clause-over g c =
    let works = rw c.in-Ok-Some.field-0-is at c.in-Ok-Some.ensures.some in
    let over = subst (λ (w : WorkState). AreOver c.args.self.now.jobs (cells_of c.args.self.now.base) w.outcomes) (sym c.work.view_is) c.requires.over.1 in
    rw c.in-Ok.ensures.items (over_more _ _ _ _ _ _ works over)
