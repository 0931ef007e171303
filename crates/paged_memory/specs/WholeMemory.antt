use Rattle.std.specs.Prelude.{◌≡◌, ℕ, List, length}
use Rattle.guest_memory.specs.Memory.{Memory}
use Rattle.paged_memory.specs.Mapping.{with_bytes}
use Rattle.paged_memory.specs.Pages.{cells_in}
use Rattle.paged_memory.specs.declared.whole_memory.WholeMemory.{WholeMemory}

-- the memory as a map
unfoldable pub cells_of : WholeMemory → Memory
cells_of memory = cells_in memory.table.items memory.perms.items memory.bytes.items

-- bytes were written from an address on, where it is mapped, and no page was mapped
pub record WritesBytes (old : WholeMemory) (start : ℕ) (bytes : List ℕ) (new : WholeMemory) : Type 0 where
  pub cells : cells_of new ≡ with_bytes start bytes (cells_of old)
  pub pages : length new.perms.items ≡ length old.perms.items
