use Rattle.std.specs.Prelude.{◌≡◌, ℕ, ◌%◌, ◌==◌, if◌then◌else◌, Option, Some, None, MatchOption, Result, OnOk, OnErr, Bool, List, length, slice_index, option_map}
use Rattle.std.specs.Option.{option_and_then}
use Rattle.guest_memory.specs.Memory.{Memory}
use Rattle.guest_memory.specs.Layout.{page_of, page_size}
use Rattle.guest_memory.specs.declared.perm.Perm.{Perm}
use Rattle.paged_memory.specs.Page.{PageValue}
use Rattle.paged_memory.specs.Bytes.{with_low_bytes, with_part}

-- which page each page number has, or none where it isn't mapped
abbrev pub PageMap : Type 0
PageMap = ℕ → Option PageValue

-- the memory of these pages
unfoldable pub memory_of_pages : PageMap → Memory
memory_of_pages pages address =
    option_map (λ page. record { perm = page.perm; byte = slice_index page.bytes (address % page_size) }) (pages (page_of address))

-- the pages with what one number has replaced by what is made of it
unfoldable pub with_page : ℕ → (Option PageValue → Option PageValue) → PageMap → PageMap
with_page number made pages other = if number == other then made (pages other) else pages other

-- the page of one number was replaced by what is made of it or, where that failed, the pages are as they were
pub record ChangesPage {E : Type 0} (old : PageMap) (number : ℕ) (made : Option PageValue → Option PageValue) (new : PageMap) (result : Result (Unit {0}) E) : Type 0 where
  pub changed : OnOk result (new ≡ with_page number made old)
  pub kept : OnErr result (new ≡ old)

-- a page with the bytes from an offset on replaced by a part
abbrev pub with_part_in : ℕ → List ℕ → PageValue → PageValue
with_part_in offset part page = record { perm = page.perm; bytes = with_part offset part page.bytes }

-- a page with the count bytes from an offset on replaced by those of a number, the lowest first
abbrev pub with_number_in : ℕ → ℕ → ℕ → PageValue → PageValue
with_number_in count offset number page = record { perm = page.perm; bytes = with_low_bytes count page.bytes offset number }

-- the pages with the count bytes from an address on replaced, all of one page
abbrev pub with_number_at : ℕ → ℕ → ℕ → PageMap → PageMap
with_number_at count address number = with_page (page_of address) (option_map (with_number_in count (address % page_size) number))

-- the page of an address, where it permits the access
unfoldable pub permitted_page : (Perm → Bool) → PageMap → ℕ → Option PageValue
permitted_page may pages address = option_and_then (λ page. if may page.perm then Some page else None) (pages (page_of address))

-- whether an address's page permits stores, and has its bytes
abbrev pub IsWritable : PageMap → ℕ → Type 0
IsWritable pages address = MatchOption (permitted_page (λ perm. perm.write) pages address) ⊥ (λ page. length page.bytes ≡ page_size)
