-- Little-endian fields of a file.
use Rattle.std.specs.Prelude.{ℕ, List, drop}
use Rattle.byteorder.specs.Endian.{little_number}

-- the number in the 2 bytes from an offset on, the lowest first, and that in the 4 bytes (System V ABI: Elf32_Half; Elf32_Word,
-- Elf32_Addr and Elf32_Off)
unfoldable pub half_at : List ℕ → ℕ → ℕ
half_at file offset = little_number 2 (drop offset file)

unfoldable pub word_at : List ℕ → ℕ → ℕ
word_at file offset = little_number 4 (drop offset file)
