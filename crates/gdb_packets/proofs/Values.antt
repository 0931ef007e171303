-- The value of digits.
use Rattle.std.proofs.Common.{◌≡◌, ℕ, ◌+◌, ◌-◌, ◌*◌, ◌^◌, List, [], ◌∷◌, ◌++◌, arith}
use Rattle.std.specs.Prelude.{min}
use Rattle.std.specs.Char.{digit_value}
use Rattle.std.proofs.lemmas.List.Sums.{fold-append}
use Rattle.gdb_packets.specs.Numbers.{value_of}

-- one digit more
pub value_more : (digits : List ℕ) (digit : ℕ) → value_of (digits ++ digit ∷ []) ≡ 16 * value_of digits + digit_value digit
value_more digits digit = fold-append (λ value digit. 16 * value + digit_value digit) 0 digits (digit ∷ [])

-- a number with one more digit, of which as much is kept as fits
pub kept_more : (digits : List ℕ) (digit worth value next : ℕ) → worth ≡ digit_value digit → value ≡ min (value_of digits) (2 ^ 64 - 1)
    → next ≡ min (16 * value + worth) (2 ^ 64 - 1) → next ≡ min (value_of (digits ++ digit ∷ [])) (2 ^ 64 - 1)
kept_more digits digit worth value next is known step =
    let more = value_more digits digit in
    omega (arith, more, is, known, step)
