-- What a writer took, and what it hasn't taken yet.
use Rattle.std.proofs.Common.{◌≡◌, ℕ, ◌+◌, Option, Some, ◌≤◌, List, [], ◌++◌, length, take, drop, sym, ◌∙◌, ap}
use Rattle.std.specs.String.{string_bytes}
use Rattle.std.specs.Io.KnownBytes.{Appends}
use Rattle.std.proofs.lemmas.List.{append-nil, drop_all}
use Rattle.tracer.specs.Recording.{Holds}
use Rattle.tracer.proofs.Writing.{sent_more}
use Rattle.trace_events.specs.Recording.{Sends, unsent}
use Rattle.trace_events.specs.declared.outlet.Outlet.{Outlet}

module _ {W : Type 0} (contents : W → Option (List ℕ)) where
  -- the writer took the next bytes
  pub Sends-sent : (old new : Outlet W) (count : ℕ) (text : List ℕ) → Appends (contents old.writer) (contents new.writer) (take count (drop old.sent (string_bytes old.text)))
      → new.text ≡ old.text → new.sent ≡ old.sent + count → Sends contents old text → Sends contents new text
  Sends-sent old new count text grew same sent has =
      let more = sent_more contents old.writer new.writer (string_bytes old.text) old.sent count [] has.written grew has.holds in
      record {
        written = more.0;
        holds = more.1;
        whole =
            ap (λ (rest : List ℕ). more.0 ++ rest)
            (ap (λ (from : ℕ). drop from (string_bytes new.text)) sent ∙ ap (λ (all : _). drop (old.sent + count) (string_bytes all)) same ∙ sym (append-nil (drop (old.sent + count) (string_bytes old.text))))
            ∙ more.2
            ∙ ap (λ (rest : List ℕ). has.written ++ rest) (append-nil (unsent old))
            ∙ has.whole;
      }

  -- the writer took all
  pub Sends-all : (outlet : Outlet W) (text : List ℕ) → length (string_bytes outlet.text) ≤ outlet.sent → Sends contents outlet text → Holds contents outlet.writer text
  Sends-all outlet text over has tells =
      let none : unsent outlet ≡ [] = drop_all outlet.sent (string_bytes outlet.text) over in
      has.holds tells ∙ ap Some (sym (append-nil has.written) ∙ ap (λ (rest : List ℕ). has.written ++ rest) (sym none) ∙ has.whole)
