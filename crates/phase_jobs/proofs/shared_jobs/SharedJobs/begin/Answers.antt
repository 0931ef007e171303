use Rattle.std.proofs.Common.{◌≡◌, ◌∙◌, arith, ap, refl, sym, subst, Some, length}
use Rattle.std.specs.Prelude.{slice_get}
use Rattle.guest_memory.specs.Memory.{Memory}
use Rattle.paged_memory.specs.Snapshot.{cells_of}
use Rattle.segment.specs.Progress.{IsProgress}
use Rattle.phase_jobs.specs.SharedJobs.{PhaseState}
use Rattle.phase_jobs.proofs.Runs.{job_at}
use Rattle.phase_jobs.proofs.Slices.{slice_is}
use Rattle.phase_jobs.proofs.shared_jobs.SharedJobs.begin.Goals as goal

pub returns-clause-slice : goal.returns-clause-slice
returns-clause-slice c =
    let view = c.self.view_is in
    let there = job_at c.self.inside.jobs.items c.args.number c.index.result.now (let long = ap (λ (p : PhaseState). length p.jobs) view in omega (arith, long, c.requires.job)) c.index.ensures in
    let at : slice_get c.args.self.now.jobs c.args.number ≡ Some c.index.result.now = ap (λ (p : PhaseState). slice_get p.jobs c.args.number) (sym view) ∙ there in
    let is = subst (λ (m : Memory). IsProgress m c.index.result.now 0 c.in_ok-progress.progress) (ap (λ (p : PhaseState). cells_of p.base) view) c.in_ok-progress.ensures in
    slice_is _ _ _ 0 _ _ _ _ _ at is c.if-is_unwanted.ensures.looks (c.if-is_unwanted.ensures.none refl) c.note.ensures
