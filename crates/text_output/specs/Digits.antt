use Rattle.std.specs.Prelude.{ℕ, zero, suc, ◌/◌, ◌%◌, List, [], ◌∷◌, ◌++◌}
use Rattle.std.specs.Char.{digit_char}

-- the low count hexadecimal digits of a number, in lower case, the highest first
unfoldable pub hexadecimal : (count number : ℕ) → List ℕ
hexadecimal zero number = []
hexadecimal (suc count) number = hexadecimal count (number / 16) ++ digit_char (number % 16) ∷ []
