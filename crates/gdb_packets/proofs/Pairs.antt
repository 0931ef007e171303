-- Bytes as pairs of digits.
use Rattle.std.proofs.Common.{◌≡◌, ◌∙◌, ℕ, ◌-◌, ◌<◌, ◌≤◌, List, [], ◌∷◌, ◌++◌, Option, Some, None, length, get_or, take, drop, refl, sym, ap, append_assoc, append-nil, arith}
use Rattle.std.specs.Prelude.{option_map}
use Rattle.std.proofs.lemmas.List.{take_all}
use Rattle.gdb_packets.specs.Digits.{byte_in, bytes_in}

-- fewer than two digits are no pair
pub no_pair : (digits : List ℕ) → (digits ≡ [] → ⊥) → length digits < 2 → bytes_in digits ≡ None
unfolding bytes_in
no_pair [] some few = absurd (some refl)
no_pair (digit ∷ []) some few = refl
no_pair (high ∷ low ∷ rest) some few = absurd (omega (arith, few))

-- the first two aren't digits
pub bad_pair : (digits : List ℕ) → 2 ≤ length digits → byte_in (get_or digits 0 0) (get_or digits 1 0) ≡ None → bytes_in digits ≡ None
unfolding bytes_in
bad_pair [] enough pair = absurd (omega (arith, enough))
bad_pair (digit ∷ []) enough pair = absurd (omega (arith, enough))
bad_pair (high ∷ low ∷ rest) enough pair = rw pair refl

-- the first pair, and what stands behind it
pub first_pair : (digits : List ℕ) (byte : ℕ) → 2 ≤ length digits → byte_in (get_or digits 0 0) (get_or digits 1 0) ≡ Some byte
    → bytes_in digits ≡ option_map (λ (bytes : List ℕ). byte ∷ bytes) (bytes_in (take (length digits - 2) (drop 2 digits)))
unfolding bytes_in
first_pair [] byte enough pair = absurd (omega (arith, enough))
first_pair (digit ∷ []) byte enough pair = absurd (omega (arith, enough))
first_pair (high ∷ low ∷ rest) byte enough pair =
    let all : take (length (high ∷ low ∷ rest) - 2) rest ≡ rest = take_all (length (high ∷ low ∷ rest) - 2) rest (omega arith) in
    rw (pair, all) refl

behind : (bytes : List ℕ) (byte : ℕ) (more : Option (List ℕ))
    → option_map (λ (later : List ℕ). (bytes ++ byte ∷ []) ++ later) more ≡ option_map (λ (later : List ℕ). bytes ++ later) (option_map (λ (later : List ℕ). byte ∷ later) more)
behind bytes byte None = refl
behind bytes byte (Some more) = ap (λ (all : List ℕ). Some all) (append_assoc bytes (byte ∷ []) more)

-- one byte more
pub byte_more : (bytes rest others digits : List ℕ) (byte : ℕ) → option_map (λ (later : List ℕ). bytes ++ later) (bytes_in rest) ≡ bytes_in digits
    → bytes_in rest ≡ option_map (λ (later : List ℕ). byte ∷ later) (bytes_in others) → option_map (λ (later : List ℕ). (bytes ++ byte ∷ []) ++ later) (bytes_in others) ≡ bytes_in digits
byte_more bytes rest others digits byte so_far first =
    behind bytes byte (bytes_in others) ∙ ap (λ (more : Option (List ℕ)). option_map (λ (later : List ℕ). bytes ++ later) more) (sym first) ∙ so_far

-- no digits are left
pub all_read : (bytes rest digits : List ℕ) → rest ≡ [] → option_map (λ (later : List ℕ). bytes ++ later) (bytes_in rest) ≡ bytes_in digits → Some bytes ≡ bytes_in digits
unfolding bytes_in
all_read bytes rest digits none so_far = ap (λ (all : List ℕ). Some all) (sym (append-nil bytes)) ∙ (rw none at so_far)

-- what is left can't be read
pub not_read : (bytes rest digits : List ℕ) → bytes_in rest ≡ None → option_map (λ (later : List ℕ). bytes ++ later) (bytes_in rest) ≡ bytes_in digits → None ≡ bytes_in digits
not_read bytes rest digits none so_far = rw none at so_far
