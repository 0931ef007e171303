use Rattle.std.specs.Prelude.{ℕ}
use Rattle.twins.specs.Places.{place_in}
use Rattle.twins.specs.declared.place_table.PlaceTable.{PlaceTable}

-- which place a page number has, counted from 1, and 0 where it has none
abbrev pub place_of : PlaceTable → ℕ → ℕ
place_of table = place_in table.groups table.leaves.items
