use Rattle.std.proofs.Common.{◌≡◌, ◌∙◌, ◌++◌, ℕ, List, ap, subst, sym}
use Rattle.tracer.specs.Recording.{Holds}
use Rattle.trace_events.specs.Ending.{ending}
use Rattle.trace_events.specs.Recording.{with_entry}
use Rattle.trace_events.specs.Timeline.{begun_text, timeline_text, whole_text}
use Rattle.trace_events.proofs.Ok.{always}
use Rattle.trace_events.proofs.timeline_recorder.TimelineRecorder.finish.Goals as goal

pub returns : goal.returns
unfolding timeline_text
returns g c = always c.flush.result _ (λ turns changes has.
    let was = c.in_ok-make.ensures.kept turns changes has c.in_ok-make.ensures.whole in
    let last = was.all ∙ ap (with_entry was.done) c.in_ok-make.ensures.made in
    let made = c.in_ok-write_ending.ensures was.done was.knows in
    let line : c.as_str.result.now ≡ ending was.done = c.as_str.ensures.value ∙ made ∙ ap (λ (text : List ℕ). text ++ ending was.done) c.clear.ensures.bytes in
    let text : List ℕ = begun_text was.done ++ c.as_str.result.now in
    let sent = c.in_ok-send.ensures.all text (c.in_ok-push.ensures (begun_text was.done) was.sends) in
    subst (Holds g.W.Write.contents c.flush.new.self.writer)
    (ap (λ (rest : List ℕ). begun_text was.done ++ rest) line ∙ ap whole_text (sym last))
    (c.flush.ensures text sent))
