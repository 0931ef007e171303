-- Where the parts of a guest's memory lie. All other addresses are unmapped.
use Rattle.std.specs.Prelude.{ℕ, ◌/◌, Bool, ◌&&◌, nat_le, nat_lt}

-- the bytes of a page
abbrev pub page_size : ℕ
page_size = 4096

-- the image window from its first address up to the address after it, and how many pages an image has at most
abbrev pub image_start : ℕ
image_start = 0x0001_0000

abbrev pub image_end : ℕ
image_end = 0x2000_0000

abbrev pub image_pages : ℕ
image_pages = 16_384

-- the first address of the heap, and how many pages it is ever given at most
abbrev pub heap_start : ℕ
heap_start = 0x2000_0000

abbrev pub heap_pages : ℕ
heap_pages = 16_384

-- thread 0's stack from its first address up to the address after it, and where its stack pointer, x2, stands at the start
abbrev pub stack_start : ℕ
stack_start = 0x7FFC_0000

abbrev pub stack_end : ℕ
stack_end = 0x8000_0000

abbrev pub stack_pointer : ℕ
stack_pointer = 0x7FFF_FFF0

-- the number of an address's page
abbrev pub page_of : ℕ → ℕ
page_of address = address / page_size

-- whether an address lies in thread 0's stack
abbrev pub is_in_stack : ℕ → Bool
is_in_stack address = nat_le stack_start address && nat_lt address stack_end
