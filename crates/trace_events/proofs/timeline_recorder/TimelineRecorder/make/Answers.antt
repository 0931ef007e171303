use Rattle.std.proofs.Common.{◌≡◌, ◌∙◌, ◌++◌, ◌∷◌, ℕ, List, None, ap, rules, subst, sym}
use Rattle.trace_events.specs.Events.{events}
use Rattle.trace_events.specs.Recording.{Sends, with_entry}
use Rattle.trace_events.specs.Timeline.{begun_text}
use Rattle.trace_events.specs.declared.timed_turn.TimedTurn.{TimedTurn}
use Rattle.trace_events.proofs.timeline_recorder.TimelineRecorder.make.Goals as goal

pub returns-in_ok-add-clause-kept : goal.returns-in_ok-add-clause-kept
unfolding begun_text
returns-in_ok-add-clause-kept g c turns changes has whole =
    let none : c.args.self.now.failure ≡ None = search rules in
    let was = has none in
    let timed : TimedTurn = c.in_ok-timed.timed in
    let made = c.in_ok-write.ensures was.done was.knows in
    let line : c.as_str.result.now ≡ events was.done timed = c.as_str.ensures.value ∙ made ∙ ap (λ (text : List ℕ). text ++ events was.done timed) c.clear.ensures.bytes in
    record {
      done = timed ∷ was.done;
      knows = c.in_ok-add.ensures was.done was.knows;
      sends = subst (λ (text : List ℕ). Sends g.W.Write.contents c.push.new.self (begun_text was.done ++ text)) line (c.in_ok-push.ensures (begun_text was.done) was.sends);
      all = was.all ∙ ap (with_entry was.done) c.in-Some-last.is ∙ ap (λ (one : TimedTurn). one ∷ was.done) (sym (c.in_ok-timed.ensures was.done was.knows));
      paired = was.paired;
    }
