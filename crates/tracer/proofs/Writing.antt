-- What a writer took, and what it hasn't taken yet.
use Rattle.std.proofs.Common.{◌≡◌, ℕ, ◌+◌, Option, Some, None, IsSome, ◌≤◌, List, [], ◌∷◌, ◌++◌, length, take, drop, refl, sym, ◌∙◌, ap, append_assoc}
use Rattle.std.specs.List.{flat_map}
use Rattle.std.specs.Io.KnownBytes.{Appends, Keeps}
use Rattle.std.proofs.lemmas.List.{append-nil, drop-append-le, drop-drop, drop_all, take-append-drop}
use Rattle.std.proofs.lemmas.List.Concat.{flat_map-append}
use Rattle.token.specs.declared.turn.Turn.{Turn}
use Rattle.tracer.specs.Recording.{Holds, KeepsText, Traces, line_at}
use Rattle.tracer.specs.TraceText.{line_of, text_of}
use Rattle.tracer.specs.declared.trace_recorder.TraceRecorder.{TraceRecorder}

-- one turn more
pub text_of_more : (turns : List Turn) (turn : Turn) → text_of (turns ++ turn ∷ []) ≡ text_of turns ++ line_of turn
unfolding text_of
text_of_more turns turn = flat_map-append line_of turns (turn ∷ []) ∙ ap (λ (line : List ℕ). flat_map line_of turns ++ line) (append-nil (line_of turn))

-- a line comes after all that there is where the last turn has its line
pub line_added : (written lines line text : List ℕ) (last : Option Turn) → last ≡ None → written ++ (lines ++ line_at last) ≡ text → written ++ (lines ++ line) ≡ text ++ line
line_added written lines line text None is whole =
    sym (append_assoc written lines line) ∙ ap (λ (all : List ℕ). all ++ line) (ap (λ (rest : List ℕ). written ++ rest) (sym (append-nil lines)) ∙ whole)
line_added written lines line text (Some turn) is whole = cc

-- known bytes that grew
appended : (old new : Option (List ℕ)) (written bytes : List ℕ) → Appends old new bytes → old ≡ Some written → IsSome new → new ≡ Some (written ++ bytes)
appended None new written bytes grew is told = cc
appended (Some x) None written bytes grew is told = absurd grew
appended (Some x) (Some y) written bytes grew is told =
    let same : x ≡ written = cc in
    ap Some (grew ∙ ap (λ (z : List ℕ). z ++ bytes) same)

-- known bytes that stayed
stayed : (old new : Option (List ℕ)) (written : List ℕ) → Keeps old new → old ≡ Some written → IsSome new → new ≡ Some written
stayed None new written kept is told = cc
stayed (Some x) None written kept is told = absurd kept
stayed (Some x) (Some y) written kept is told =
    let same : x ≡ written = cc in
    ap Some (kept ∙ same)

pub Holds-kept : {W : Type 0} (contents : W → Option (List ℕ)) (old new : W) (written : List ℕ) → Keeps (contents old) (contents new) → Holds contents old written → Holds contents new written
Holds-kept contents old new written kept holds tells = stayed (contents old) (contents new) written kept (holds tells) (tells new)

-- the writer took the next bytes
pub sent_more : {W : Type 0} (contents : W → Option (List ℕ)) (old new : W) (bytes : List ℕ) (sent count : ℕ) (tail written : List ℕ)
    → Appends (contents old) (contents new) (take count (drop sent bytes)) → Holds contents old written
    → (now : List ℕ) × Holds contents new now × (now ++ (drop (sent + count) bytes ++ tail) ≡ written ++ (drop sent bytes ++ tail))
sent_more contents old new bytes sent count tail written grew holds =
    let piece : List ℕ = take count (drop sent bytes) in
    let rest : List ℕ = drop (sent + count) bytes in
    let split : piece ++ rest ≡ drop sent bytes = ap (λ (later : List ℕ). piece ++ later) (sym (drop-drop count sent bytes)) ∙ take-append-drop count (drop sent bytes) in (
      written ++ piece,
      λ tells. appended (contents old) (contents new) written piece grew (holds tells) (tells new),
      append_assoc written piece (rest ++ tail) ∙ ap (λ (all : List ℕ). written ++ all) (sym (append_assoc piece rest tail) ∙ ap (λ (all : List ℕ). all ++ tail) split),
    )

module _ {W : Type 0} (contents : W → Option (List ℕ)) where
  pub KeepsText-same : (recorder : TraceRecorder W) → KeepsText contents recorder recorder
  KeepsText-same recorder written holds = (written, holds, refl)

  pub KeepsText-then : (first second third : TraceRecorder W) → KeepsText contents first second → KeepsText contents second third → KeepsText contents first third
  KeepsText-then first second third one other written holds =
      let at = one written holds in
      let after = other at.0 at.1 in
      (after.0, after.1, after.2 ∙ at.2)

  pub Traces-kept : (old new : TraceRecorder W) (turns : List Turn) → KeepsText contents old new → Traces contents old turns → Traces contents new turns
  Traces-kept old new turns kept has =
      let at = kept has.written has.holds in
      record { written = at.0; holds = at.1; text = at.2 ∙ has.text }

-- the line of the last turn was made
pub line_made : (old new line : List ℕ) (sent : ℕ) (last : Option Turn) (turn : Turn) → sent ≤ length old → last ≡ Some turn → new ≡ old ++ line → line ≡ line_of turn
    → drop sent new ++ line_at None ≡ drop sent old ++ line_at last
line_made old new line sent last turn within is grew made =
    append-nil (drop sent new) ∙ ap (drop sent) grew ∙ drop-append-le sent old line within ∙ ap (λ (rest : List ℕ). drop sent old ++ rest) (made ∙ sym (ap line_at is))

-- all lines were sent
pub all_sent : (bytes cleared tail : List ℕ) (sent : ℕ) → length bytes ≤ sent → cleared ≡ [] → drop 0 cleared ++ tail ≡ drop sent bytes ++ tail
all_sent bytes cleared tail sent over none = ap (λ (rest : List ℕ). rest ++ tail) (none ∙ sym (drop_all sent bytes over))

-- nothing is left to be taken
pub all_taken : (written rest text : List ℕ) (last : Option Turn) → rest ≡ line_at last → last ≡ None → written ++ rest ≡ text → written ≡ text
all_taken written rest text last is none whole = sym (append-nil written) ∙ ap (λ (all : List ℕ). written ++ all) (sym (is ∙ ap line_at none)) ∙ whole
