-- What a text without a sign is read as.
use Rattle.std.proofs.Common.{◌≡◌, ◌≤◌, ◌^◌, ◌&&◌, ℕ, Bool, true, false, List, Some, None, Ok, Err, if◌then◌else◌, length, refl}
use Rattle.std.proofs.lemmas.Bool.{le-leb, lt-ltb, ltb-true}
use Rattle.std.proofs.lemmas.Str.Parse.{IsNumeralModel, numerals_by_value, parse_plain, tells_all_ascii_digits}
use Rattle.std.specs.Prelude.{◌≢◌, slice_index}
use Rattle.std.specs.Str.{all_ascii_digits}
use Rattle.std.specs.Str.Parse.{ParsesUnsigned, digits_value}
use Rattle.command_requests.specs.Shuffles.{number_in}

decimal : IsNumeralModel (λ digits. all_ascii_digits digits ≡ true) (digits_value 10)
decimal = numerals_by_value _ tells_all_ascii_digits

if_all : (number : ℕ) (a b c d : Bool) → a ≡ true → b ≡ true → c ≡ true → d ≡ true → Some number ≡ (if a && b && c && d then Some number else None)
if_all number a b c d one two three four = rw (one, two, three, four) refl

if_not_all : (number : ℕ) (a b c d : Bool) → ((b ≡ true) × (a ≡ true) × (c ≡ true) → ⊥) → None ≡ (if a && b && c && d then Some number else None)
if_not_all number true true true d unless = absurd (unless (refl, refl, refl))
if_not_all number true true false d unless = refl
if_not_all number true false c d unless = refl
if_not_all number false b c d unless = refl

-- its number, which is at least so much
pub read : (bits least : ℕ) (text : List ℕ) (number : ℕ) → ParsesUnsigned {E = ℕ} bits 10 text (Ok number) → slice_index text 0 ≢ 43 → least ≤ number
    → Some number ≡ number_in bits least text
read bits least text number parses plain enough =
    let is = parse_plain decimal {E = ℕ} bits text (Ok number) parses plain in
    rw is.1 (if_all _ _ _ _ _ (lt-ltb 0 (length text) is.0.1) is.0.0 (lt-ltb _ _ is.0.2) (le-leb least _ (rw is.1 at enough)))

-- none, if it isn't read
pub unread : (E : Type 0) (bits least : ℕ) (text : List ℕ) (error : E) → ParsesUnsigned bits 10 text (Err error) → slice_index text 0 ≢ 43
    → None ≡ number_in bits least text
unread E bits least text error parses plain =
    let no = parse_plain decimal bits text (Err error) parses plain in
    if_not_all _ _ _ _ _ (λ all. no (all.0, ltb-true 0 (length text) all.1, ltb-true (digits_value 10 text) (2 ^ bits) all.2))
