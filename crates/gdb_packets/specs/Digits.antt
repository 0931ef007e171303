-- Bytes as hexadecimal digits.
use Rattle.std.specs.Prelude.{ℕ, ◌+◌, ◌*◌, ◌&&◌, nat_lt, if◌then◌else◌, Option, Some, None, option_map, option_and_then, List, [], ◌∷◌}
use Rattle.std.specs.Char.{digit_value}
use Rattle.std.specs.List.{flat_map}
use Rattle.text_output.specs.Digits.{hexadecimal}

-- two digits for each byte
abbrev pub digits_of : List ℕ → List ℕ
digits_of bytes = flat_map (λ byte. hexadecimal 2 byte) bytes

-- the byte of two digits in either case, none if one is no digit
abbrev pub byte_in : (high low : ℕ) → Option ℕ
byte_in high low = if nat_lt (digit_value high) 16 && nat_lt (digit_value low) 16 then Some (16 * digit_value high + digit_value low) else None

-- the bytes of pairs of digits, none if they aren't such pairs
unfoldable pub bytes_in : List ℕ → Option (List ℕ)
bytes_in [] = Some []
bytes_in (digit ∷ []) = None
bytes_in (high ∷ low ∷ rest) = option_and_then (λ byte. option_map (λ bytes. byte ∷ bytes) (bytes_in rest)) (byte_in high low)
