use Rattle.std.specs.Prelude.{ℕ, ◌+◌, ◌-◌, Bool, ◌&&◌, nat_le, nat_lt, if◌then◌else◌, Option, Some, None, List, length, slice_index, option_map, find}
use Rattle.guest_memory.specs.Memory.{Cell, Memory}
use Rattle.guest_memory.specs.Layout.{page_of}
use Rattle.guest_memory.specs.declared.perm.Perm.{Perm}
use Rattle.elf32_reader.specs.LoadSegment.{LoadSegment, covers, cell_at}

-- whether an index is one of the count from another on
abbrev pub is_among : ℕ → ℕ → ℕ → Bool
is_among low count index = nat_le low index && nat_lt index (low + count)

-- the memory with what count pages from a page number on have replaced
unfoldable pub with_cells : ℕ → ℕ → (ℕ → Option Cell) → Memory → Memory
with_cells first count cells memory address =
    if is_among first count (page_of address) then cells address else memory address

-- the memory with count pages from a page number on made new: zeros with one permission
abbrev pub with_zeros : ℕ → ℕ → Perm → Memory → Memory
with_zeros first count perm = with_cells first count (λ _. Some (record { perm = perm; byte = 0 }))

-- the memory with count pages from a page number on taken away
abbrev pub without_pages : ℕ → ℕ → Memory → Memory
without_pages first count = with_cells first count (λ _. None)

-- the memory with its bytes from an address on replaced, where it is mapped
unfoldable pub with_bytes : ℕ → List ℕ → Memory → Memory
with_bytes start bytes memory address =
    option_map
    (λ cell. if is_among start (length bytes) address then record { perm = cell.perm; byte = slice_index bytes (address - start) } else cell)
    (memory address)

-- the memory with the pages of a segment
unfoldable pub with_segment : LoadSegment → Memory → Memory
with_segment segment memory address = if covers address segment then Some (cell_at address segment) else memory address

-- the memory of some segments alone
unfoldable pub memory_of_segments : List LoadSegment → Memory
memory_of_segments segments address = option_map (cell_at address) (find (covers address) segments)
