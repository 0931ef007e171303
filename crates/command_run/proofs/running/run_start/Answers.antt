use Rattle.std.proofs.Common.{◌∙◌, ◌+◌, ap, inl, inr, refl, subst, sym}
use Rattle.std.proofs.KnownBytes.{Appends-kept}
use Rattle.token.specs.RunInTurn.{point_of}
use Rattle.command_run.specs.Recording.{HasWriting, wanted_by}
use Rattle.command_run.proofs.Runs.{all_sent, blamed_as, stopped_by, unwritten_some}
use Rattle.command_run.specs.Serves.{AreToldOf}
use Rattle.command_run.proofs.running.run_start.Goals as goal
use Rattle.command_run.proofs.running.run_start.Goals.{in-Ok+in-Ok-finish, in-Ok+in-Err-finish, in-Err}

-- a write failed, and one of the texts is written as the turns are done
pub failure_of_interruption-requires : goal.failure_of_interruption-requires
failure_of_interruption-requires g c = λ failed.
    rw (c.unwritten_destination-destination.ensures, c.as_slice.ensures.value)
    (unwritten_some c.run_wanted-run.result.run.recorder.items
    (subst HasWriting (sym c.run_wanted-run.ensures.same) ((rw c.in-Err.is at c.run_wanted-run.ensures.writes) failed)))

-- all of the output was put out before the last flush failed
pub returns-clause-stopped : goal.returns-clause-stopped
returns-clause-stopped g c = elim c.match-result.branch [
  | in-Ok+in-Ok-finish w ↦ rw w.result-is tt
  | in-Ok+in-Err-finish w ↦ rw (w.result-is, w.stdout-is) λ files files'. (
    inr (inl (refl, ap (λ failures. failures + 1) (w.finish.ensures.others.0 ∙ rw w.in-Ok.is at c.run_wanted-run.ensures.failures))),
    all_sent (AreToldOf g.O.Write.contents) (point_of c.args.start).setup w.in-Ok.end c.run_wanted-run.result.run.recorder _ _
        (rw w.in-Ok.is at c.run_wanted-run.ensures.ended) (Appends-kept _ _ _ _ (rw w.in-Ok.is at c.run_wanted-run.ensures.sent) w.finish.ensures.bytes),
  )
  | in-Err w ↦ rw (w.result-is, w.stdout-is) λ files files'.
      stopped_by (wanted_by c.args.items.items) w.unwritten_destination-destination.result (point_of c.args.start).setup w.in-Err.interruption
      w.failure_of_interruption.result
      (record { files = files; output = g.W.Write.contents c.args.stdout.now.writer; failures = c.args.stdout.now.failures })
      (record { files = files'; output = g.W.Write.contents c.run_wanted-run.new.stdout.writer; failures = c.run_wanted-run.new.stdout.failures })
      (blamed_as c.run_wanted-run.result.run.recorder.items w.as_slice.result.now (wanted_by c.args.items.items) w.unwritten_destination-destination.result
      w.as_slice.ensures.value c.run_wanted-run.ensures.same w.unwritten_destination-destination.ensures)
      w.failure_of_interruption.ensures (rw w.in-Err.is at c.run_wanted-run.ensures.failures) (rw w.in-Err.is at c.run_wanted-run.ensures.sent)
]

-- the last flush kept what was put out
pub returns-clause-sent : goal.returns-clause-sent
returns-clause-sent g c = elim c.match-result.branch [
  | in-Ok+in-Ok-finish w ↦ rw (w.result-is, w.stdout-is) (Appends-kept _ _ _ _ (rw w.in-Ok.is at c.run_wanted-run.ensures.sent) w.finish.ensures.bytes)
  | in-Ok+in-Err-finish w ↦ rw w.result-is tt
  | in-Err w ↦ rw w.result-is tt
]

pub returns-clause-ended : goal.returns-clause-ended
returns-clause-ended g c = elim c.match-result.branch [
  | in-Ok+in-Ok-finish w ↦ rw w.result-is (rw w.in-Ok.is at c.run_wanted-run.ensures.ended)
  | in-Ok+in-Err-finish w ↦ rw w.result-is tt
  | in-Err w ↦ rw w.result-is tt
]

pub returns-clause-findings : goal.returns-clause-findings
returns-clause-findings g c = elim c.match-result.branch [
  | in-Ok+in-Ok-finish w ↦ rw w.result-is (rw w.in-Ok.is at c.run_wanted-run.ensures.findings)
  | in-Ok+in-Err-finish w ↦ rw w.result-is tt
  | in-Err w ↦ rw w.result-is tt
]

pub returns-clause-whole : goal.returns-clause-whole
returns-clause-whole g c = elim c.match-result.branch [
  | in-Ok+in-Ok-finish w ↦ rw (w.result-is, w.stdout-is) (w.finish.ensures.others.1 ∙ w.in-Ok-finish.ensures.whole)
  | in-Ok+in-Err-finish w ↦ rw w.result-is tt
  | in-Err w ↦ rw w.result-is tt
]
