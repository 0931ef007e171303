-- What a recorder that hashes the trace has recorded.
use Rattle.std.specs.Prelude.{◌≡◌, ℕ, List, ◌++◌}
use Rattle.sha2.specs.Hashers.{Holds256}
use Rattle.token.specs.declared.turn.Turn.{Turn}
use Rattle.tracer.specs.Recording.{line_at}
use Rattle.tracer.specs.TraceText.{text_of}
use Rattle.run_digest.specs.declared.digest_recorder.DigestRecorder.{DigestRecorder}

-- What the hasher holds, followed by the last turn's line, is the text of these turns.
pub record Digests (recorder : DigestRecorder) (turns : List Turn) : Type 0 where
  pub told : List ℕ
  pub holds : Holds256 recorder.trace told
  pub text : told ++ line_at recorder.last ≡ text_of turns

-- what the hasher holds and the last turn's line are together as before
abbrev pub KeepsTold : (old new : DigestRecorder) → Type 0
KeepsTold old new = (told : List ℕ) → Holds256 old.trace told → (now : List ℕ) × Holds256 new.trace now × (now ++ line_at new.last ≡ told ++ line_at old.last)
