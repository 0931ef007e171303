use Rattle.std.specs.Prelude.{ℕ, zero, suc, ◌+◌, ◌*◌, ◌/◌, ◌%◌, List, ◌++◌, length, take, drop, slice_index, slice_set}

-- the number that count bytes from an index on spell, the lowest first
abbrev pub number_from : List ℕ → ℕ → ℕ → ℕ
number_from bytes zero index = 0
number_from bytes (suc count) index = slice_index bytes index + 256 * number_from bytes count (index + 1)

-- the bytes with the count from an index on replaced by those of a number, the lowest first
unfoldable pub with_low_bytes : ℕ → List ℕ → ℕ → ℕ → List ℕ
with_low_bytes zero bytes index number = bytes
with_low_bytes (suc count) bytes index number = with_low_bytes count (slice_set bytes index (number % 256)) (index + 1) (number / 256)

-- the bytes with those from an index on replaced by a part
abbrev pub with_part : ℕ → List ℕ → List ℕ → List ℕ
with_part index part bytes = take index bytes ++ (part ++ drop (index + length part) bytes)
