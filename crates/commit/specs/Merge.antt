use Rattle.std.specs.Prelude.{ℕ, ◌==◌, if◌then◌else◌, Option, Some, None, option_map, option_and_then, unwrap_or}
use Rattle.std.specs.FinMap.{get}
use Rattle.guest_memory.specs.Memory.{Memory}
use Rattle.commit.specs.ByteMap.{ByteMap, byte_map}

-- mine, where it differs from copy
abbrev pub changed_byte : ℕ → ℕ → Option ℕ
changed_byte copy mine = if copy == mine then None else Some mine

-- at an address where the bytes of copy and mine differ, mine's byte; none elsewhere
unfoldable pub change_at : Memory → Memory → ℕ → Option ℕ
change_at copy mine address =
    option_and_then (λ before. option_and_then (λ after. changed_byte before.byte after.byte) (mine address)) (copy address)

-- The map that has mine's byte at each address where the bytes of copy and mine differ.
unfoldable pub changes : Memory → Memory → ByteMap
changes copy mine = byte_map (change_at copy mine)

-- the memory with the bytes that a function gives, where it is mapped; no permission changes, and nothing is mapped
unfoldable pub with_bytes : (ℕ → Option ℕ) → Memory → Memory
with_bytes byte_at memory address = option_map (λ cell. record { perm = cell.perm; byte = unwrap_or (byte_at address) cell.byte }) (memory address)

-- the memory with some bytes changed, where it is mapped
abbrev pub with_changes : ByteMap → Memory → Memory
with_changes bytes = with_bytes (get bytes)

-- The merge: mine's byte where now maps the address and the bytes of copy and mine differ, else what now has there.
abbrev pub merge : Memory → Memory → Memory → Memory
merge now copy mine = with_changes (changes copy mine) now
