-- Fields of a file.
use Rattle.std.specs.Prelude.{ℕ, List, drop}
use Rattle.byteorder.specs.Endian.{big_number, little_number}

-- the number in the 2 bytes from an offset on, the lowest first
unfoldable pub half_at : List ℕ → ℕ → ℕ
half_at file offset = little_number 2 (drop offset file)

-- the same, the highest first
unfoldable pub big_half_at : List ℕ → ℕ → ℕ
big_half_at file offset = big_number 2 (drop offset file)

-- the number in the 4 bytes from an offset on, the lowest first
unfoldable pub word_at : List ℕ → ℕ → ℕ
word_at file offset = little_number 4 (drop offset file)
