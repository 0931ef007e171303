-- What the values that the parser found are, by its rows.
use Rattle.std.proofs.Common.{◌≡◌, ◌∙◌, ℕ, Bool, true, false, List, Option, Some, None, Result, Ok, Err, ap, codes, refl, sym, subst}
use Rattle.std.specs.Str.Parse.{ParsesUnsigned}
use Rattle.clap.proofs.WalkLemmas.{first_value-rows, one_text-rows}
use Rattle.clap.specs.Words.{ReadsOne, Text, first_of, first_value, one_of, one_text, rows_of}
use Rattle.clap.specs.declared.parser.matches.Found.{Found}
use Rattle.command_requests.specs.Asked.{IsFlag, IsRead}

-- the first text
pub is_first : (found : Found) (id : Text) → first_value found id ≡ first_of id (rows_of found)
is_first = first_value-rows

-- whether an option without a value is given
pub is_flag : (found : Found) (id : Text) (given : Bool) → (one_text found id ≡ None → given ≡ false)
    → (one_text found id ≡ Some (codes "true") → given ≡ true) → (one_text found id ≡ Some (codes "false") → given ≡ false)
    → IsFlag (one_of id (rows_of found)) given
is_flag found id given none when_true when_false = subst (λ (text : Option Text). IsFlag text given) (one_text-rows found id) (go (one_text found id) refl)
  where
    go : (text : Option Text) → one_text found id ≡ text → IsFlag text given
    go None is = none is
    go (Some text) is = (λ same. when_true (is ∙ ap (λ (t : Text). Some t) same), λ same. when_false (is ∙ ap (λ (t : Text). Some t) same))

-- the number that the first text says
pub is_read : {E : Type 0} (gives : List ℕ → Result ℕ E → Type 0) (bits : ℕ) (found : Found) (id : Text) (given : Option ℕ)
    → (one_text found id ≡ None → given ≡ None) → ((text : Text) → one_text found id ≡ Some text → ReadsOne gives text given)
    → ((text : Text) (result : Result ℕ E) → gives text result → ParsesUnsigned bits 10 text result)
    → IsRead bits (one_of id (rows_of found)) given
is_read gives bits found id given none some parses =
    subst (λ (text : Option Text). IsRead bits text given) (one_text-rows found id) (go (one_text found id) refl)
  where
    of_number : (text : Text) (given : Option ℕ) → ReadsOne gives text given → IsRead bits (Some text) given
    of_number text None reads = parses text (Err reads.0) reads.1
    of_number text (Some number) reads = parses text (Ok number) reads

    go : (text : Option Text) → one_text found id ≡ text → IsRead bits text given
    go None is = subst (IsRead bits None) (sym (none is)) tt
    go (Some text) is = of_number text given (some text is)
