use Rattle.std.specs.Prelude.{◌≡◌, ℕ, Bool, true, false, ◌==◌, ◌||◌, Result, Ok, Err, Option, None, IsSome, List, is_some}
use Rattle.guest_memory.specs.Layout.{page_of}
use Rattle.guest_memory.specs.Memory.{Memory, stored}
use Rattle.guest_memory.specs.Stores.{Stores, IsOutOfMemory}
use Rattle.guest_memory.specs.declared.fault.AccessFault.{AccessFault}
use Rattle.guest_memory.specs.declared.fault.AccessFault.TheVariants.{Denied}
use Rattle.guest_memory.specs.declared.fault.StoreFault.{StoreFault}
use Rattle.guest_memory.specs.declared.fault.StoreFault.TheVariants.{Refused, OutOfMemory}
use Rattle.paged_memory.specs.Number.{width_of, value_of}
use Rattle.paged_memory.specs.Page.{PageValue}
use Rattle.paged_memory.specs.PageMap.{PageMap, memory_of_pages, permitted_page, IsWritable}
use Rattle.paged_memory.specs.Snapshot as snapshot
use Rattle.paged_memory.specs.declared.number.Number.{Number}
use Rattle.paged_memory.specs.declared.snapshot.Snapshot.{Snapshot}
use Rattle.twins.specs.PrivatePages.{private_at, StandsAt}
use Rattle.twins.specs.Twins.{pages_over}
use Rattle.twins.specs.declared.private_page.PrivatePage.{PrivatePage}
use Rattle.twins.specs.declared.view.View.{View}

-- the snapshot that a view was opened on
abbrev pub base_of : View → Snapshot
base_of view = view.base

-- a view's private pages, in the order of their first stores
abbrev pub private_of : View → List PrivatePage
private_of view = view.private.pages.items

-- whether a page number was stored to
abbrev pub is_dirty : View → ℕ → Bool
is_dirty view number = is_some (private_at (private_of view) number)

-- a view's pages: the private one of a number, or else the base's
abbrev pub pages_of : View → PageMap
pages_of view = pages_over (snapshot.pages_of (base_of view)) (private_of view)

-- a view as a map
abbrev pub cells_of : View → Memory
cells_of view = memory_of_pages (pages_of view)

-- where a store may take memory: at a mapped address whose page wasn't stored to
pub record Grows (view : View) (address : ℕ) : Type 0 where
  pub mapped : IsSome (snapshot.pages_of (base_of view) (page_of address))
  pub first_store : is_dirty view (page_of address) ≡ false

-- which page numbers were stored to after a store that answered this
abbrev pub dirty_after : Result (Unit {0}) StoreFault → View → ℕ → ℕ → Bool
dirty_after (Ok done) old address number = (page_of address == number) || is_dirty old number
dirty_after (Err fault) old address number = is_dirty old number

-- what a store makes of a view beside its bytes: its base stays, and where the store is made its page becomes one that was stored to
pub record Marks (result : Result (Unit {0}) StoreFault) (old : View) (address : ℕ) (new : View) : Type 0 where
  pub base : base_of new ≡ base_of old
  pub dirty : (number : ℕ) → is_dirty new number ≡ dirty_after result old address number

-- what a near store makes of a view beside its bytes: what a store that is made makes of it or, where it wasn't made, nothing
abbrev pub MarksNear : Bool → View → ℕ → View → Type 0
MarksNear true old address new = Marks (Ok tt) old address new
MarksNear false old address new = new ≡ old

-- what the store of a number makes of a view's memory
abbrev pub stored_number : View → ℕ → Number → Result Memory AccessFault
stored_number view address number = stored (width_of number) (cells_of view) address (value_of number)

-- What a store of a number makes of a view: what is wanted of it, or nothing. Memory runs out only where a store may take memory, and no such
-- address is added. The base stays, and no page but that of the address becomes one that was stored to.
pub record StoresNumber (old : View) (address : ℕ) (number : Number) (new : View) (result : Result (Unit {0}) StoreFault) : Type 0 where
  pub stores : Stores result (cells_of old) (stored_number old address number) (cells_of new)
  pub grows : IsOutOfMemory result → Grows old address
  pub settles : (other : ℕ) → Grows new other → Grows old other
  pub marks : Marks result old address new

-- whether the page of an address permits stores
abbrev pub writable_page : View → ℕ → Option PageValue
writable_page view address = permitted_page (λ perm. perm.write) (pages_of view) address

-- What a claim of an address's page for a store answers: the place of its private page, or that stores aren't permitted there, or
-- that memory runs out for the private page of a page that permits them. The base stays, and no other page becomes private.
abbrev pub Claims : Result ℕ StoreFault → View → ℕ → View → Type 0
Claims (Ok place) old address new =
    StandsAt (private_of new) (page_of address) place × IsWritable (pages_of old) address × ((number : ℕ) → is_dirty new number ≡ ((page_of address == number) || is_dirty old number))
Claims (Err (Refused fault)) old address new = (fault ≡ Denied) × (writable_page old address ≡ None) × (private_of new ≡ private_of old)
Claims (Err (OutOfMemory error)) old address new = IsWritable (pages_of old) address × Grows old address × (private_of new ≡ private_of old)

-- What a claim of an address's page for a store makes of a view: its base and its pages stay, and it answers what was claimed.
pub record ClaimsPage (old : View) (address : ℕ) (new : View) (result : Result ℕ StoreFault) : Type 0 where
  pub base : base_of new ≡ base_of old
  pub pages : pages_of new ≡ pages_of old
  pub claims : Claims result old address new
