use Rattle.std.proofs.Common.{◌∙◌, ◌∷◌, [], ℕ, List, ap, arith, length-append, sym}
use Rattle.token.specs.Change.{Change, change_by}
use Rattle.token.specs.declared.turn.Turn.{Turn}
use Rattle.trace_events.specs.Recording.{with_entry}
use Rattle.trace_events.specs.Timeline.{entries_of, entry_of}
use Rattle.trace_events.specs.Times.{timed, timed_turn}
use Rattle.trace_events.specs.declared.recorded_turn.RecordedTurn.{RecordedTurn}
use Rattle.trace_events.specs.declared.timed_turn.TimedTurn.{TimedTurn}
use Rattle.trace_events.proofs.More.{entries_more, timed_more}
use Rattle.trace_events.proofs.timeline_recorder.TimelineRecorderRecorder.record.Goals as goal

pub returns : goal.returns
returns g c addresses turns changes ready has whole =
    let recorder = c.args.self.now in
    let turn : Turn = c.args.turn in
    let change : Change = change_by turn addresses in
    let entry : RecordedTurn = entry_of turn change in
    let was = has whole in
    let paired = was.paired in
    record {
      done = was.done;
      knows = was.knows;
      sends = was.sends;
      all =
          ap timed (entries_more turns changes turn change was.paired)
          ∙ timed_more (entries_of turns changes) entry
          ∙ ap (λ (done : List TimedTurn). timed_turn done entry ∷ done) (was.all ∙ ap (with_entry was.done) ready.0)
          ∙ ap (λ (pages : ℕ). timed_turn was.done (record { turn = turn; pages = pages }) ∷ was.done) (sym ready.1);
      paired = omega (arith, length-append turns (turn ∷ []), length-append changes (change ∷ []));
    }
