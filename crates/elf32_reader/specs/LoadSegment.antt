use Rattle.std.specs.Prelude.{ℕ, ◌+◌, ◌-◌, ◌<◌, ◌≤◌, Bool, ◌&&◌, not, IsTrue, nat_le, if◌then◌else◌, List, length, slice_index}
use Rattle.guest_memory.specs.Memory.{Cell}
use Rattle.guest_memory.specs.Layout.{page_of, image_start, image_end}
use Rattle.guest_memory.specs.declared.perm.Perm.{Perm}

-- what a program header of type PT_LOAD says of a segment: where it begins, how many bytes it has in memory, what its pages
-- permit, and its bytes in the file (System V ABI, program header)
pub record LoadSegment : Type 0 where
  pub vaddr : ℕ
  pub memsz : ℕ
  pub perm : Perm
  pub bytes : List ℕ

-- the pages that a segment touches, from first_page to last_page
abbrev pub first_page : LoadSegment → ℕ
first_page segment = page_of segment.vaddr

abbrev pub last_page : LoadSegment → ℕ
last_page segment = page_of (segment.vaddr + segment.memsz - 1)

abbrev pub page_count : LoadSegment → ℕ
page_count segment = last_page segment + 1 - first_page segment

-- whether a segment touches the page of an address
abbrev pub covers : ℕ → LoadSegment → Bool
covers address segment = nat_le (first_page segment) (page_of address) && nat_le (page_of address) (last_page segment)

-- what stands at an address of a segment's pages: the file's byte, and zero before the segment and after its bytes
abbrev pub cell_at : ℕ → LoadSegment → Cell
cell_at address segment =
    record { perm = segment.perm; byte = if nat_le segment.vaddr address then slice_index segment.bytes (address - segment.vaddr) else 0 }

-- what holds of each segment of an image
pub record IsLoadable (segment : LoadSegment) : Type 0 where
  pub not_empty : 0 < segment.memsz
  pub sizes : length segment.bytes ≤ segment.memsz
  pub above : image_start ≤ segment.vaddr
  pub below : segment.vaddr + segment.memsz ≤ image_end
  pub no_writable_code : IsTrue (not (segment.perm.write && segment.perm.execute))
