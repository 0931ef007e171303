use Rattle.std.proofs.Common.{subst}
use Rattle.command_run.specs.Recording.{IsTold}
use Rattle.command_run.proofs.recording.Recording.prepare.Goals as goal

pub returns-in-Trace-clause-kept : goal.returns-in-Trace-clause-kept
returns-in-Trace-clause-kept g c = λ turns changes told. c.prepare.ensures.kept turns changes (subst (IsTold g.O.Write.contents turns changes) c.in-Trace.is told)

pub returns-in-Timeline-clause-kept : goal.returns-in-Timeline-clause-kept
returns-in-Timeline-clause-kept g c = λ turns changes told.
    c.prepare-in-Timeline.ensures.kept turns changes (subst (IsTold g.O.Write.contents turns changes) c.in-Timeline.is told)

pub returns-in-Report-clause-kept : goal.returns-in-Report-clause-kept
returns-in-Report-clause-kept g c = λ turns changes told.
    let both = subst (IsTold g.O.Write.contents turns changes) c.in-Report.is told in
    (c.prepare-in-Report.ensures.kept turns changes both.0, both.1)

pub returns-in-Digest-clause-kept : goal.returns-in-Digest-clause-kept
returns-in-Digest-clause-kept g c = λ turns changes told.
    let both = subst (IsTold g.O.Write.contents turns changes) c.in-Digest.is told in
    (c.prepare-in-Digest.ensures.kept turns changes both.0, both.1)
