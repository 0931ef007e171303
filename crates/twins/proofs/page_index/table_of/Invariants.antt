use Rattle.std.proofs.Common.{◌≡◌, ℕ, take}
use Rattle.twins.specs.Listed.{place_among}
use Rattle.twins.specs.PlaceTable.{place_of}
use Rattle.twins.specs.PrivatePages.{numbers_of}
use Rattle.twins.proofs.page_index.table_of.Given as goal

abbrev pub invariant-loop-place : goal.invariant-loop-place
invariant-loop-place l = (number : ℕ) → place_of l.table number ≡ place_among (take l.place (numbers_of l.pages)) number
