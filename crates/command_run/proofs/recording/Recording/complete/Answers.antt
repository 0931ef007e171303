use Rattle.std.proofs.lemmas.Result.{on_ok_weaker}
use Rattle.command_run.proofs.recording.Recording.complete.Goals as goal

pub returns-in-Trace-clause-whole : goal.returns-in-Trace-clause-whole
returns-in-Trace-clause-whole g c =
    rw c.in-Trace.is (on_ok_weaker c.complete_trace.result.1 (λ whole turns changes told order. whole turns told) c.complete_trace.ensures.whole)

pub returns-in-Timeline-clause-whole : goal.returns-in-Timeline-clause-whole
returns-in-Timeline-clause-whole g c =
    rw c.in-Timeline.is (on_ok_weaker c.complete_timeline.result.1 (λ whole turns changes told order. whole turns changes told) c.complete_timeline.ensures.whole)

pub returns-in-Report-clause-whole : goal.returns-in-Report-clause-whole
returns-in-Report-clause-whole g c =
    rw c.in-Report.is (on_ok_weaker c.complete_report.result.1 (λ whole turns changes told order. whole told.1 changes told.0 order) c.complete_report.ensures.whole)

pub returns-in-Core-clause-whole : goal.returns-in-Core-clause-whole
returns-in-Core-clause-whole g c =
    rw c.in-Core.is (on_ok_weaker c.complete_core.result.1 (λ whole turns changes told order. whole told) c.complete_core.ensures.whole)

pub returns-in-Digest-clause-whole : goal.returns-in-Digest-clause-whole
returns-in-Digest-clause-whole g c =
    rw c.in-Digest.is (on_ok_weaker c.complete_digest.result.1 (λ whole turns changes told order. whole told.1 turns told.0) c.complete_digest.ensures.whole)
