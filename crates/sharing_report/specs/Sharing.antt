use Rattle.std.specs.Prelude.{◌≡◌, ℕ, Bool, ◌&&◌, ◌==◌, ◌↔◌, List, All, Contains, length, map}
use Rattle.std.specs.List.Sorted.{IsStrictlyIncreasing}
use Rattle.std.specs.Set.{distinct_count}
use Rattle.token.specs.Change.{Change}
use Rattle.sharing_report.specs.ByteChanges.{bytes_of, bytes_of_page}
use Rattle.sharing_report.specs.Contested.{contested_count}
use Rattle.sharing_report.specs.declared.byte_change.ByteChange.{ByteChange}
use Rattle.sharing_report.specs.declared.mark.Mark.{Mark}
use Rattle.sharing_report.specs.declared.mark.PhaseAddress.{PhaseAddress}
use Rattle.sharing_report.specs.declared.page_row.PageRow.{PageRow}

-- how many different numbers a list has
abbrev pub count_of_different : List ℕ → ℕ
count_of_different = distinct_count (λ number other. number == other)

-- the same address in the same phase
abbrev pub same_spot : PhaseAddress → PhaseAddress → Bool
same_spot spot other = (spot.phase == other.phase) && (spot.address == other.address)

-- the mark of a byte's thread at the turn's phase
abbrev pub phase_mark : ByteChange → Mark ℕ
phase_mark byte = record { place = byte.phase; thread = byte.thread }

-- the mark of a byte's thread at the turn's phase and the byte's address
abbrev pub spot_mark : ByteChange → Mark PhaseAddress
spot_mark byte = record { place = record { phase = byte.phase; address = byte.address }; thread = byte.thread }

-- The row of a page, from its changed bytes: its turns, its bytes, their threads, the phases in which at least two threads each changed one
-- of them, and the pairs of a phase and an address that at least two threads changed in that phase.
unfoldable pub row_from : (page : ℕ) → List ByteChange → PageRow
row_from page bytes = record {
  page = page;
  turns = count_of_different (map (λ byte. byte.turn) bytes);
  bytes = length bytes;
  threads = count_of_different (map (λ byte. byte.thread) bytes);
  shared = contested_count (λ phase other. phase == other) (map phase_mark bytes);
  clashes = contested_count same_spot (map spot_mark bytes);
}

-- the row of a page of a run whose turns made these changes
abbrev pub row_of : List Change → (page : ℕ) → PageRow
row_of changes page = row_from page (bytes_of_page page (bytes_of changes))

-- The sharing of a run: a row for each page with a changed byte and for no other, ascending.
pub record IsSharing (changes : List Change) (rows : List PageRow) : Type 0 where
  pub ascending : IsStrictlyIncreasing (map (λ row. row.page) rows)
  pub pages : (page : ℕ) → Contains (map (λ row. row.page) rows) page ↔ Contains (map (λ byte. byte.page) (bytes_of changes)) page
  pub numbers : All (λ row. row ≡ row_of changes row.page) rows
