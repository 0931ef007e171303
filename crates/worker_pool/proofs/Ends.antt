-- An end that a host thread made of a phase's job is what the run needs of that thread in that phase.
use Rattle.std.proofs.Common.{◌≡◌, ◌∙◌, ℕ, Some, List, [], ◌∷◌, sym, ap, subst, zero, suc}
use Rattle.guest_memory.specs.Memory.{Memory}
use Rattle.std.specs.Prelude.{map, slice_get}
use Rattle.phase_jobs.specs.Slices.{IsEndOfJob}
use Rattle.segment.specs.Ends.{IsEndOf}
use Rattle.segment.specs.declared.segment.Segment.{Segment}
use Rattle.segment.specs.declared.segment_end.SegmentEnd.{SegmentEnd}
use Rattle.thread_table.specs.declared.thread.Thread.{Thread}
use Rattle.token.specs.History.{History}
use Rattle.token.specs.Point.{Point, need_at}
use Rattle.token.specs.Segments.{segment_in}
use Rattle.token.specs.Serial.{StandsAfter}
use Rattle.token.specs.Setup.{Setup}
use Rattle.token.specs.declared.need.Need.TheVariants as need
use Rattle.token.specs.declared.need.Work.{Work}
use Rattle.token.proofs.Needs.{segment_is}
use Rattle.token.proofs.OneBeginning.{one_base}
use Rattle.worker_pool.specs.Jobs.{AreJobsIn, jobs_in}
use Rattle.worker_pool.specs.Ends.{IsEndIn}

-- the job at a place
job_there : (segment_of : ℕ → Segment) (threads : List ℕ) (k thread : ℕ) (job : Segment) → slice_get threads k ≡ Some thread → slice_get (map segment_of threads) k ≡ Some job
    → job ≡ segment_of thread
job_there segment_of [] k thread job at is = cc
job_there segment_of (t ∷ ts) zero thread job at is =
    let here : t ≡ thread = cc in
    let same : segment_of t ≡ job = cc is in
    sym same ∙ ap segment_of here
job_there segment_of (t ∷ ts) (suc k) thread job at is = job_there segment_of ts k thread job at is

same_end : (copy there : Memory) (job other : Segment) (end : SegmentEnd) → copy ≡ there → job ≡ other → IsEndOf copy job end → IsEndOf there other end
same_end copy there job other end memory same is =
    subst (λ (m : Memory). IsEndOf m other end) memory (subst (λ (j : Segment). IsEndOf copy j end) same is)

-- the end of a phase's job, wherever in the phase a run stands
pub end_of_job : (setup : Setup) (number : ℕ) (threads : List ℕ) (jobs : List Segment) (memory : Memory) (k thread : ℕ) (end : SegmentEnd)
    → AreJobsIn setup number threads jobs memory → slice_get threads k ≡ Some thread → IsEndOfJob jobs memory k end → IsEndIn setup number thread end
end_of_job setup number threads jobs memory k thread end are at_thread is point history stands setup_is phase_is =
    let here = are point history stands setup_is phase_is in
    let there : slice_get (jobs_in setup number point.base_threads threads) k ≡ Some is.job = ap (λ (js : List Segment). slice_get js k) (sym here.1) ∙ is.job_is in
    let same : is.job ≡ segment_in setup number point.base_threads thread = job_there (segment_in setup number point.base_threads) threads k thread is.job at_thread there in
    same_end memory point.base is.job (segment_in setup number point.base_threads thread) end here.0 same is.is

-- what is right where a run stands is right wherever in the phase it stands
pub jobs_everywhere : (setup : Setup) (point : Point) (history : History) (number : ℕ) (threads : List ℕ) (jobs : List Segment) (memory : Memory) → StandsAfter point history → point.setup ≡ setup
    → number ≡ point.phase → memory ≡ point.base → jobs ≡ jobs_in setup point.phase point.base_threads threads → AreJobsIn setup number threads jobs memory
jobs_everywhere setup point history number threads jobs memory stands setup_is number_is memory_is jobs_are other other_history other_stands other_setup other_phase =
    let same = one_base point other history other_history stands other_stands (setup_is ∙ sym other_setup) (sym number_is ∙ sym other_phase) in (
      memory_is ∙ same.0,
      jobs_are ∙ ap (λ (phase : ℕ). jobs_in setup phase point.base_threads threads) (sym number_is) ∙ ap (λ (rows : List Thread). jobs_in setup number rows threads) same.1,
    )

-- the end of a thread's segment in the phase where a run stands is the one that it needs
pub needed : (setup : Setup) (point : Point) (history : History) (phase : ℕ) (work : Work) (end : SegmentEnd) → StandsAfter point history → point.setup ≡ setup → phase ≡ point.phase
    → need_at point ≡ need.Segment work → IsEndIn setup phase work.thread end → IsEndOf point.base work.segment end
needed setup point history phase work end stands setup_is phase_is need is =
    let here : IsEndOf point.base (segment_in setup phase point.base_threads work.thread) end = is point history stands setup_is (sym phase_is) in
    let same : segment_in setup phase point.base_threads work.thread ≡ work.segment =
    ap (λ (s : Setup). segment_in s phase point.base_threads work.thread) (sym setup_is) ∙ ap (λ (number : ℕ). segment_in point.setup number point.base_threads work.thread) phase_is ∙ sym (ap (λ (w : Work). w.segment) (segment_is point work need)) in
    subst (λ (s : Segment). IsEndOf point.base s end) same here
