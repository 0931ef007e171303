-- The runs of a memory's mapped pages with equal permissions, as segments that a file loads.
use Rattle.std.specs.Prelude.{◌≡◌, ◌≢◌, ◌⊎◌, ℕ, ◌+◌, ◌%◌, ◌^◌, ◌<◌, option_map, List, [], ◌∷◌, All, find, length}
use Rattle.guest_memory.specs.Layout.{page_size}
use Rattle.guest_memory.specs.Memory.{Memory}
use Rattle.elf32_reader.specs.LoadSegment.{LoadSegment, cell_at, covers}

-- a segment is made of whole pages, and the file has all of its bytes
pub record IsWhole (load : LoadSegment) : Type 0 where
  pub not_empty : 0 < load.memsz
  pub start : load.vaddr % page_size ≡ 0
  pub pages : load.memsz % page_size ≡ 0
  pub bytes : length load.bytes ≡ load.memsz

-- A segment lies before another: there is an unmapped page between them, or they permit different things.
abbrev pub IsBefore : LoadSegment → LoadSegment → Type 0
IsBefore one next = (one.vaddr + one.memsz < next.vaddr) ⊎ ((one.vaddr + one.memsz ≡ next.vaddr) × (one.perm ≢ next.perm))

abbrev pub AreAscending : List LoadSegment → Type 0
AreAscending [] = Unit {0}
AreAscending (one ∷ []) = Unit {0}
AreAscending (one ∷ next ∷ loads) = IsBefore one next × AreAscending (next ∷ loads)

-- The segments are the runs of a memory: what they load is the memory at each address, and none can be longer.
pub record AreRunsOf (memory : Memory) (loads : List LoadSegment) : Type 0 where
  pub described : (address : ℕ) → address < 2 ^ 32 → option_map (cell_at address) (find (covers address) loads) ≡ memory address
  pub whole : All IsWhole loads
  pub ascending : AreAscending loads
