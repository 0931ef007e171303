use Rattle.std.proofs.Common.{◌≤◌, List, ℕ, ◌++◌, ◌∙◌, ap, length, rules}
use Rattle.std.specs.String.{string_bytes}
use Rattle.std.proofs.lemmas.List.{take_rest}
use Rattle.tracer.specs.Recording.{line_at}
use Rattle.tracer.proofs.Writing.{Holds-kept, all_sent, sent_more}
use Rattle.tracer.proofs.trace_recorder.TraceRecorder.send.Goals as goal

pub pieces-preserved : goal.pieces-preserved
pieces-preserved g c =
    let recorder = c.pieces.self in
    let grew = rw (take_rest, c.as_bytes.ensures.value) at c.in-Ok.ensures.bytes in (
      λ written holds.
          let at = c.pieces.invariant.0 written holds in
          let more = sent_more g.W.Write.contents recorder.writer c.write_some.new.writer (string_bytes recorder.lines) recorder.sent c.in-Ok.count (line_at recorder.last) at.0 grew at.1 in
          (more.0, more.1, more.2 ∙ at.2),
      c.pieces.invariant.1,
    )

pub returns-in-Err-clause-kept : goal.returns-in-Err-clause-kept
returns-in-Err-clause-kept g c written holds =
    let at = c.pieces.invariant.0 written holds in
    (at.0, Holds-kept g.W.Write.contents c.pieces.self.writer c.write_some.new.writer at.0 c.in-Err.ensures.bytes at.1, at.2)

pub returns-clause-kept : goal.returns-clause-kept
returns-clause-kept g c written holds =
    let recorder = c.pieces.self in
    let at = c.pieces.invariant.0 written holds in
    let over : length (string_bytes recorder.lines) ≤ recorder.sent = search rules in
    (at.0, at.1, ap (λ (rest : List ℕ). at.0 ++ rest) (all_sent (string_bytes recorder.lines) (string_bytes c.clear.new.self) (line_at recorder.last) recorder.sent over c.clear.ensures.bytes) ∙ at.2)
