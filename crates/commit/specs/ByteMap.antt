use Rattle.std.specs.Prelude.{ℕ, ◌^◌, Option, List, option_map, filter_map}
use Rattle.std.specs.FinMap.{FinMap, from_entries}
use Rattle.std.specs.List.{range_with_len}
use Rattle.std.specs.Ordering.{nat_cmp}

-- a map from address to byte
abbrev pub ByteMap : Type 0
ByteMap = FinMap nat_cmp ℕ

-- all addresses, ascending
unfoldable pub all_addresses : List ℕ
all_addresses = range_with_len 0 (2 ^ 32)

-- The map that has, at each of all addresses, the byte that a function gives there, and none where that gives none.
unfoldable pub byte_map : (ℕ → Option ℕ) → ByteMap
byte_map byte_at = from_entries (filter_map (λ address. option_map (λ byte. (address, byte)) (byte_at address)) all_addresses)
