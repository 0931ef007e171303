use Rattle.std.proofs.Common.{◌++◌, ◌∙◌, ℕ, List, ap, refl}
use Rattle.paged_memory.specs.Snapshot.{cells_of}
use Rattle.sha2.specs.Sha256.{sha256}
use Rattle.tracer.specs.Recording.{line_at}
use Rattle.tracer.specs.TraceText.{text_of}
use Rattle.tracer.proofs.Writing.{all_taken}
use Rattle.run_digest.specs.Memories.{memory_message}
use Rattle.run_digest.specs.Texts.{digest_lines}
use Rattle.run_digest.proofs.digest_recorder.DigestRecorder.finish.Goals as goal

pub returns : goal.returns
returns c turns has =
    let at = c.make_line.ensures.kept has.told has.holds in
    let recorder = c.make_line.new.self in
    let told = all_taken at.0 (line_at recorder.last) (text_of turns) recorder.last refl c.in_ok-make_line.ensures.made (at.2 ∙ has.text) in
    let trace = c.finalize.ensures at.0 at.1 ∙ ap sha256 told in
    let output : List ℕ = sha256 c.args.output.now in
    let memory : List ℕ = sha256 (memory_message (cells_of c.args.memory.now)) in
    c.in_ok-write_digest.ensures
    ∙ ap (λ (bytes : List ℕ). bytes ++ digest_lines c.args.outcome c.digest.result c.in_ok-hash.hash c.finalize.result) c.new-text.ensures.bytes
    ∙ ap (λ (one : List ℕ). digest_lines c.args.outcome one c.in_ok-hash.hash c.finalize.result) c.digest.ensures
    ∙ ap (λ (one : List ℕ). digest_lines c.args.outcome output one c.finalize.result) c.in_ok-hash.ensures
    ∙ ap (λ (one : List ℕ). digest_lines c.args.outcome output memory one) trace
