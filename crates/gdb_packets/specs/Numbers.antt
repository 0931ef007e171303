-- Numbers in hexadecimal digits of either case.
use Rattle.std.specs.Prelude.{◌≡◌, ◌≢◌, ℕ, ◌+◌, ◌-◌, ◌*◌, ◌^◌, ◌<◌, ◌==◌, min, fold, position, take, drop, All, Option, IsSomeAnd, option_map, List, []}
use Rattle.std.specs.Char.{digit_value}

-- the value of digits, the highest first
abbrev pub value_of : List ℕ → ℕ
value_of digits = fold (λ value digit. 16 * value + digit_value digit) 0 digits

-- These digits, at least one, are a number's, which is this; one that doesn't fit in 64 bits counts as the greatest that does.
pub record IsNumber (digits : List ℕ) (number : ℕ) : Type 0 where
  pub some : digits ≢ []
  pub all : All (λ digit. digit_value digit < 16) digits
  pub value : number ≡ min (value_of digits) (2 ^ 64 - 1)

-- the parts of a text before and behind the first such byte, none if it has no such byte
abbrev pub parts_at : ℕ → List ℕ → Option (List ℕ × List ℕ)
parts_at byte text = option_map (λ place. (take place text, drop (place + 1) text)) (position (λ other. other == byte) text)

-- a text is these two numbers, with a , (44) between
abbrev pub AreNumbers : List ℕ → (first second : ℕ) → Type 0
AreNumbers text first second = IsSomeAnd (parts_at 44 text) (λ parts. IsNumber parts.0 first × IsNumber parts.1 second)
