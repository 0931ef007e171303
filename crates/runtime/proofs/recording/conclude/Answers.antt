use Rattle.std.proofs.Common.{Some, ap, sym, ◌∙◌, subst, rules}
use Rattle.std.specs.Io.KnownBytes.{Appends}
use Rattle.runtime.proofs.OneReport.{ends_so}
use Rattle.runtime.proofs.Prefixes.{appends_prefix, prefix_recorded, prefix_sent, unended_recorded}
use Rattle.runtime.proofs.Sent.{appends_none}
use Rattle.runtime.proofs.recording.conclude.Goals as goal

pub returns-in-Ok-end_of-clause-comes : goal.returns-in-Ok-end_of-clause-comes
returns-in-Ok-end_of-clause-comes g c = λ start before after empty given.
    let goes = rw c.in-Ok.is at given in
    let from_start = subst (Appends _ _) (sym empty) (appends_none before.taken) in
    record {
      end =
          ends_so g.K.Recorder.records c.args.serial _ c.in-Ok-end_of.end c.into_recorder.result c.one_history.ensures.determinism c.one_history.ensures.progress
          c.into_recorder.ensures goes.setup (goes.ended ∙ ap Some (sym c.in-Ok-end_of.ensures.outcome)) c.in-Ok-end_of.ensures.output c.in-Ok-end_of.ensures.memory
          c.in-Ok-end_of.ensures.threads c.in-Ok-end_of.ensures.few;
      writes_if = tt;
      sent = subst (Appends _ _) (sym c.in-Ok-end_of.ensures.output) (goes.sent before.taken from_start);
      failures = goes.failures;
    }

pub returns-in-Err-end_of-clause-comes : goal.returns-in-Err-end_of-clause-comes
returns-in-Err-end_of-clause-comes g c = λ start before after empty given.
    let goes = rw c.in-Ok.is at given in
    let from_start = subst (Appends _ _) (sym empty) (appends_none before.taken) in
    let has = c.into_recorder-in-Err-end_of.ensures in
    record {
      end = prefix_recorded g.K.Recorder.records c.args.serial _ _ has goes.setup;
      writes_if = search rules;
      sent = prefix_sent c.args.serial has.0 _ _ _ has.1 goes.setup (appends_prefix _ _ _ (goes.sent before.taken from_start));
      failures = search rules;
    }

pub returns-in-Err-clause-comes : goal.returns-in-Err-clause-comes
returns-in-Err-clause-comes g c = λ start before after empty given.
    let goes = rw c.in-Err.is at given in
    let from_start = subst (Appends _ _) (sym empty) (appends_none before.taken) in
    let has = c.into_recorder-in-Err.ensures in
    record {
      end = prefix_recorded g.K.Recorder.records c.args.serial _ _ has goes.setup;
      writes_if = λ failed. let cut = goes.writes_if failed in (cut.0, unended_recorded g.K.Recorder.records c.args.serial _ _ has goes.setup cut.1);
      sent = prefix_sent c.args.serial has.0 _ _ _ has.1 goes.setup (goes.sent before.taken from_start);
      failures = goes.failures;
    }
