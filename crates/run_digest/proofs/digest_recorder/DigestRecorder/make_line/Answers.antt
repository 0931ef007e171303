use Rattle.std.proofs.Common.{◌++◌, ◌∙◌, ℕ, List, ap, sym}
use Rattle.std.proofs.lemmas.List.{append-nil}
use Rattle.tracer.specs.Recording.{line_at}
use Rattle.tracer.specs.TraceText.{line_of}
use Rattle.run_digest.proofs.digest_recorder.DigestRecorder.make_line.Goals as goal

pub returns-in_ok-write_line-clause-kept : goal.returns-in_ok-write_line-clause-kept
returns-in_ok-write_line-clause-kept c told holds =
    let turn = c.in-Some.turn in
    let made = c.as_str.ensures.value ∙ c.in_ok-write_line.ensures ∙ ap (λ (bytes : List ℕ). bytes ++ line_of turn) c.clear.ensures.bytes in (
      told ++ c.as_str.result.now,
      c.update.ensures told holds,
      append-nil (told ++ c.as_str.result.now) ∙ ap (λ (line : List ℕ). told ++ line) (made ∙ sym (ap line_at c.in-Some.is)),
    )
