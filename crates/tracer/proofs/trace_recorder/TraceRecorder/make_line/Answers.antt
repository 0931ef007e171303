use Rattle.std.proofs.Common.{List, ℕ, ◌++◌, ◌∙◌, ap, drop}
use Rattle.std.specs.String.{string_bytes}
use Rattle.tracer.specs.Recording.{line_at}
use Rattle.tracer.specs.TraceText.{line_of}
use Rattle.tracer.proofs.Writing.{line_made}
use Rattle.tracer.proofs.trace_recorder.TraceRecorder.make_line.Goals as goal

pub returns-in_err-push_str-clause-kept : goal.returns-in_err-push_str-clause-kept
returns-in_err-push_str-clause-kept g c written holds =
    let recorder = c.args.self.now in
    (written, holds, ap (λ (bytes : List ℕ). written ++ (drop recorder.sent bytes ++ line_at recorder.last)) c.in_err-push_str.ensures.bytes)

pub returns-in_ok-push_str-clause-kept : goal.returns-in_ok-push_str-clause-kept
returns-in_ok-push_str-clause-kept g c written holds =
    let recorder = c.args.self.now in
    let turn = c.in-Some.turn in
    let made = c.as_str.ensures.value ∙ c.in_ok-write_line.ensures ∙ ap (λ (bytes : List ℕ). bytes ++ line_of turn) c.clear.ensures.bytes in
    (written, holds, ap (λ (rest : List ℕ). written ++ rest) (line_made (string_bytes recorder.lines) (string_bytes c.push_str.new.self) c.as_str.result.now recorder.sent recorder.last turn recorder.within c.in-Some.is c.in_ok-push_str.ensures.bytes made))
