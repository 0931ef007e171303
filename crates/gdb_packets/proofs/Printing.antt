-- A text that is printed part by part.
use Rattle.std.proofs.Common.{◌≡◌, ◌∙◌, ℕ, List, [], ◌∷◌, ◌++◌, refl, sym, ap, append_assoc, append-nil}
use Rattle.std.specs.List.{flat_map}
use Rattle.std.proofs.lemmas.List.Concat.{flat_map-append}
use Rattle.std.proofs.lemmas.List.{flat_map_more}
use Rattle.gdb_packets.specs.Wire.{IsPrinted, printing}

-- What was sent prints what stands before the rest of the text.
pub record Printing (old text rest new : List ℕ) : Type 0 where
  pub taken : List ℕ
  pub whole : taken ++ rest ≡ text
  pub printed : IsPrinted old taken new

pub begun : (old text : List ℕ) → Printing old text text old
begun old text = record { taken = []; whole = refl; printed = record { parts = []; whole = refl; sent = sym (append-nil old) } }

one_more : (parts : List (List ℕ)) (part : List ℕ) → flat_map (λ part. part) (parts ++ part ∷ []) ≡ flat_map (λ part. part) parts ++ part
one_more parts part =
    flat_map-append (λ part. part) parts (part ∷ []) ∙ ap (λ (end : List ℕ). flat_map (λ part. part) parts ++ end) (append-nil part)

pub goes_on : (old text part others now next : List ℕ) → Printing old text (part ++ others) now → next ≡ now ++ printing part → Printing old text others next
goes_on old text part others now next printing_now sends =
    let printed = printing_now.printed in
    record {
      taken = printing_now.taken ++ part;
      whole = append_assoc printing_now.taken part others ∙ printing_now.whole;
      printed =
          record {
            parts = printed.parts ++ part ∷ [];
            whole = one_more printed.parts part ∙ ap (λ (begin : List ℕ). begin ++ part) printed.whole;
            sent = sends ∙ ap (λ (begin : List ℕ). begin ++ printing part) printed.sent ∙ flat_map_more printing old printed.parts part;
          };
    }

pub over : (old text new : List ℕ) → Printing old text [] new → IsPrinted old text new
over old text new printing_now =
    record {
      parts = printing_now.printed.parts;
      whole = printing_now.printed.whole ∙ sym (append-nil printing_now.taken) ∙ printing_now.whole;
      sent = printing_now.printed.sent;
    }
