use Rattle.std.specs.Prelude.{◌≡◌, ◌≢◌, ℕ, ◌+◌, ◌*◌, ◌%◌, ◌^◌, ◌<◌, ◌==◌, false, if◌then◌else◌, Some, None, List, length, slice_index, slice_index_or}
use Rattle.guest_memory.specs.Memory.{Memory}
use Rattle.guest_memory.specs.Layout.{page_of, page_size}
use Rattle.guest_memory.specs.declared.perm.Perm.{Perm}

-- no access at all
abbrev pub no_access : Perm
no_access = record { read = false; write = false; execute = false }

-- which of the pages an address's page number has in a table, and 0 where it isn't mapped
abbrev pub slot_of : List ℕ → ℕ → ℕ
slot_of table address = slice_index table (page_of address)

-- where an address's byte lies among the bytes of the pages
abbrev pub place_of : List ℕ → ℕ → ℕ
place_of table address = page_size * slot_of table address + address % page_size

-- what an address's page permits
abbrev pub perm_of : List ℕ → List Perm → ℕ → Perm
perm_of table perms address = slice_index_or perms (slot_of table address) no_access

-- the memory of a table, the permissions of the pages and their bytes
unfoldable pub cells_in : List ℕ → List Perm → List ℕ → Memory
cells_in table perms bytes address =
    if slot_of table address == 0 then None
    else Some (record { perm = perm_of table perms address; byte = slice_index bytes (place_of table address) })

-- What holds of them: page 0 stands for all numbers that aren't mapped and permits nothing, each page has its bytes,
-- the table names pages alone, and no page has two numbers.
pub record AreSound (table : List ℕ) (perms : List Perm) (bytes : List ℕ) : Type 0 where
  pub numbers : length table ≡ 2 ^ 20
  pub sizes : length bytes ≡ page_size * length perms
  pub nothing : slice_index_or perms 0 no_access ≡ no_access
  pub within : (page : ℕ) → slice_index table page < length perms
  pub distinct : (page other : ℕ) → slice_index table page ≢ 0 → slice_index table page ≡ slice_index table other → page ≡ other
