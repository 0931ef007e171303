use Rattle.std.specs.Prelude.{◌≡◌, ℕ, ◌+◌, ◌*◌, ◌%◌, ◌^◌, ◌<◌, ◌==◌, if◌then◌else◌, Option, None, List, [], ◌∷◌, length, slice_index, map, filter, is_some}
use Rattle.std.specs.List.Sorted.{IsStrictlyIncreasing}
use Rattle.guest_memory.specs.Layout.{page_of, page_size}
use Rattle.paged_memory.specs.Page.{PageValue}
use Rattle.commit.specs.ByteMap.{all_addresses}
use Rattle.commit.specs.Bytes.{differing_from}
use Rattle.commit.specs.Merge.{changed_byte}

-- what is kept of a page: its number, and the bytes of its two copies
pub record PageChange : Type 0 where
  pub number : ℕ
  pub copy : List ℕ
  pub mine : List ℕ

-- what is kept of a page that was found and left so
abbrev pub page_change : ℕ → PageValue → PageValue → PageChange
page_change number found left = record { number = number; copy = found.bytes; mine = left.bytes }

-- the byte that a page's change has at an address of the page
abbrev pub byte_of_change : PageChange → ℕ → Option ℕ
byte_of_change change address = changed_byte (slice_index change.copy (address % page_size)) (slice_index change.mine (address % page_size))

-- the addresses of a page at which its bytes differ, ascending
abbrev pub addresses_in : PageChange → List ℕ
addresses_in change = differing_from (page_size * change.number) change.copy change.mine

-- the byte that the changes of some pages have at an address: that of the address's page, or none
unfoldable pub patched : List PageChange → ℕ → Option ℕ
patched [] address = None
patched (change ∷ rest) address = if change.number == page_of address then byte_of_change change address else patched rest address

-- the addresses at which a function gives a byte, ascending
abbrev pub addresses_with : (ℕ → Option ℕ) → List ℕ
addresses_with byte_at = filter (λ address. is_some (byte_at address)) all_addresses

-- the numbers of some pages
abbrev pub numbers_of : List PageChange → List ℕ
numbers_of pages = map (λ change. change.number) pages

-- all page numbers are below another
abbrev pub AreBelow : List PageChange → ℕ → Type 0
AreBelow pages bound = (place : ℕ) → place < length pages → slice_index (numbers_of pages) place < bound

-- A page of this number may come after some pages.
pub record MayFollow (pages : List PageChange) (next : ℕ) : Type 0 where
  pub number : next < 2 ^ 20
  pub below : AreBelow pages next

-- The changes of one more page are added: it has the bytes that a function gives at its addresses, and other pages may follow it.
pub record Adds (old : List PageChange) (number : ℕ) (byte_at : ℕ → Option ℕ) (new : List PageChange) : Type 0 where
  pub added : (address : ℕ) → patched new address ≡ (if number == page_of address then byte_at address else patched old address)
  pub below : AreBelow new (number + 1)

-- What holds of the changed pages of a patch: they ascend, and the count is that of the addresses that they have a byte at.
pub record AreCounted (pages : List PageChange) (count : ℕ) : Type 0 where
  pub ascending : IsStrictlyIncreasing (numbers_of pages)
  pub counted : count ≡ length (addresses_with (patched pages))
