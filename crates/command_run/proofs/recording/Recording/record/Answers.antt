use Rattle.std.proofs.Common.{subst}
use Rattle.command_run.specs.Recording.{IsReadyFor, IsTold}
use Rattle.command_run.proofs.recording.Recording.record.Goals as goal

pub returns-in-Trace-clause-told : goal.returns-in-Trace-clause-told
returns-in-Trace-clause-told g c = λ addresses turns changes ready told.
    c.record.ensures addresses turns changes (subst (IsReadyFor addresses) c.in-Trace.is ready) (subst (IsTold g.O.Write.contents turns changes) c.in-Trace.is told)

pub returns-in-Timeline-clause-told : goal.returns-in-Timeline-clause-told
returns-in-Timeline-clause-told g c = λ addresses turns changes ready told.
    c.record-in-Timeline.ensures addresses turns changes (subst (IsReadyFor addresses) c.in-Timeline.is ready) (subst (IsTold g.O.Write.contents turns changes) c.in-Timeline.is told)

pub returns-in-Report-clause-told : goal.returns-in-Report-clause-told
returns-in-Report-clause-told g c = λ addresses turns changes ready told.
    let both = subst (IsTold g.O.Write.contents turns changes) c.in-Report.is told in
    (c.record-in-Report.ensures addresses turns changes (subst (IsReadyFor addresses) c.in-Report.is ready) both.0, both.1)

pub returns-in-Digest-clause-told : goal.returns-in-Digest-clause-told
returns-in-Digest-clause-told g c = λ addresses turns changes ready told.
    let both = subst (IsTold g.O.Write.contents turns changes) c.in-Digest.is told in
    (c.record-in-Digest.ensures addresses turns changes (subst (IsReadyFor addresses) c.in-Digest.is ready) both.0, both.1)
