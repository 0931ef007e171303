-- What a recorder that writes the trace has recorded.
use Rattle.std.specs.Prelude.{◌≡◌, ℕ, Option, Some, None, IsSome, List, [], ◌++◌, drop}
use Rattle.std.specs.String.{string_bytes}
use Rattle.token.specs.declared.turn.Turn.{Turn}
use Rattle.tracer.specs.TraceText.{line_of, text_of}
use Rattle.tracer.specs.declared.trace_recorder.TraceRecorder.{TraceRecorder}

-- a type of writers tells of each writer what it holds
abbrev pub Tells : {W : Type 0} → (W → Option (List ℕ)) → Type 0
Tells {W} contents = (writer : W) → IsSome (contents writer)

-- a writer holds these bytes, where its type tells
abbrev pub Holds : {W : Type 0} → (W → Option (List ℕ)) → W → List ℕ → Type 0
Holds contents writer bytes = Tells contents → contents writer ≡ Some bytes

-- the line of a turn, where there is one
abbrev pub line_at : Option Turn → List ℕ
line_at None = []
line_at (Some turn) = line_of turn

-- what the writer hasn't taken yet: what is left of the lines that were made, and the last turn's
abbrev pub unwritten : {W : Type 0} → TraceRecorder W → List ℕ
unwritten recorder = drop recorder.sent (string_bytes recorder.lines) ++ line_at recorder.last

-- What the writer took, followed by what it hasn't taken yet, is the text of these turns.
pub record Traces {W : Type 0} (contents : W → Option (List ℕ)) (recorder : TraceRecorder W) (turns : List Turn) : Type 0 where
  pub written : List ℕ
  pub holds : Holds contents recorder.writer written
  pub text : written ++ unwritten recorder ≡ text_of turns

-- what the writer took and what it hasn't taken yet are together as before
abbrev pub KeepsText : {W : Type 0} → (W → Option (List ℕ)) → (old new : TraceRecorder W) → Type 0
KeepsText contents old new =
    (written : List ℕ) → Holds contents old.writer written
    → (now : List ℕ) × Holds contents new.writer now × (now ++ unwritten new ≡ written ++ unwritten old)
