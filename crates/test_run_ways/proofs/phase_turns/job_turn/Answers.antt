use Rattle.std.proofs.Common.{◌≡◌, ◌∙◌, Some, sym, ap, subst}
use Rattle.std.proofs.lemmas.Option.{slice_get-get_or}
use Rattle.guest_memory.specs.Memory.{Memory}
use Rattle.phase_jobs.specs.Slices.{IsEndOfJob}
use Rattle.segment.specs.Ends.{IsEndOf}
use Rattle.token.specs.RunInTurn.{point_of}
use Rattle.token.proofs.Needs.{segment_needed}
use Rattle.worker_pool.proofs.Ends.{end_of_job, needed}
use Rattle.test_run_ways.proofs.phase_turns.job_turn.Goals as goal

pub turn-requires : goal.turn-requires
turn-requires g c =
    let work = c.in-Segment.work in
    let at_thread = slice_get-get_or c.args.threads.now c.args.job 0 c.if-place-threads.false ∙ ap Some c.if-threads-place.false in
    let ran = c.requires.ran.3 in
    let is : IsEndOfJob c.requires.ran.0 c.requires.ran.1 c.args.job c.into_end-end.result =
    record { job = c.args.ran.job; job_is = ran.job_is; is = subst (λ (m : Memory). IsEndOf m c.args.ran.job c.into_end-end.result) ran.memory_is c.into_end-end.ensures.is } in
    let end = end_of_job g.B.OfRun.setup c.args.number c.args.threads.now c.requires.ran.0 c.requires.ran.1 c.args.job work.thread c.into_end-end.result c.requires.ran.2 at_thread is in
    segment_needed (point_of c.args.serial.now) work c.into_end-end.result (sym c.in-Segment.ensures.need)
    (needed g.B.OfRun.setup (point_of c.args.serial.now) c.in-Segment.ensures.follows.0 c.args.number work c.into_end-end.result c.in-Segment.ensures.follows.1 c.requires.setup
    (sym c.if-phase-number.false ∙ c.phase.ensures) (sym c.in-Segment.ensures.need) end)
