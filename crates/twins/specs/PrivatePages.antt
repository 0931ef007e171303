use Rattle.std.specs.Prelude.{◌≡◌, ℕ, ◌%◌, ◌<◌, ◌==◌, [], ◌∷◌, ◌++◌, Option, Some, None, IsSome, List, length, slice_index, find, map, option_map}
use Rattle.paged_memory.specs.Page.{PageValue}
use Rattle.paged_memory.specs.PageMap.{with_page}
use Rattle.std.specs.Global.{Box}
use Rattle.twins.specs.Listed.{place_among}
use Rattle.twins.specs.PlaceTable.{place_of}
use Rattle.twins.specs.Places.{has_leaf}
use Rattle.twins.specs.declared.place_table.PlaceTable.{PlaceTable}
use Rattle.twins.specs.declared.private_page.PrivatePage.{PrivatePage}

-- the numbers of private pages
abbrev pub numbers_of : List PrivatePage → List ℕ
numbers_of = map (λ private. private.number)

-- the private page of a number, where it has one
unfoldable pub private_at : List PrivatePage → ℕ → Option PageValue
private_at pages number = option_map (λ private. private.page.value) (find (λ private. private.number == number) pages)

-- the private page of a number stands at a place
pub record StandsAt (pages : List PrivatePage) (number place : ℕ) : Type 0 where
  pub inside : place < length pages
  pub number_there : slice_index (numbers_of pages) place ≡ number
  pub present : IsSome (private_at pages number)

-- the place that one look finds for a number: the one kept last for its remainder
abbrev pub near_in : List ℕ → ℕ → ℕ
near_in near number = slice_index near (number % 128)

-- a private page was added to those that were there, and stands at a place
pub record AddsPage (old new : List PrivatePage) (place number : ℕ) (page : PageValue) : Type 0 where
  pub numbers : numbers_of new ≡ numbers_of old ++ number ∷ []
  pub pages : private_at new ≡ with_page number (λ _. Some page) (private_at old)
  pub stands : StandsAt new number place

-- which place a number has, counted from 1, and 0 where it has none: the table's or, without one, where it stands in a list of numbers
abbrev pub place_with : Option (Box PlaceTable) → List ℕ → ℕ → ℕ
place_with None numbers = place_among numbers
place_with (Some table) numbers = place_of table.value

-- the place of a number can be set
abbrev pub HasRoom : Option (Box PlaceTable) → ℕ → Type 0
HasRoom None number = Unit {0}
HasRoom (Some table) number = has_leaf table.value.groups number
