-- The names in a string table.
use Rattle.std.specs.Prelude.{ℕ, ◌+◌, Bool, ◌&&◌, ◌==◌, not, nat_lt, if◌then◌else◌, Option, Some, None, option_and_then, List, length, position, slice_range}
use Rattle.std.specs.List.{list_all}
use Rattle.symbols.specs.Format.{name_limit}

-- whether a name may have a byte: printable ASCII, neither a space nor `=`
abbrev pub is_name_byte : ℕ → Bool
is_name_byte byte = nat_lt 0x20 byte && (nat_lt byte 0x7F && not (byte == 0x3D))

abbrev pub is_name : List ℕ → Bool
is_name name = nat_lt 0 (length name) && list_all is_name_byte name

-- the name at an offset: the bytes up to the first zero, if that is within reach and they are a name
unfoldable pub name_at : List ℕ → ℕ → Option (List ℕ)
name_at strings offset =
    option_and_then
    (λ size. let name = slice_range strings offset (offset + size) in if is_name name then Some name else None)
    (position (λ byte. byte == 0) (slice_range strings offset (offset + (name_limit + 1))))
