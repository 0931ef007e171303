-- What a recorder of sharing knows of each page.
use Rattle.std.specs.Prelude.{◌≡◌, ℕ, ◌+◌, ◌*◌, ◌/◌, ◌<◌, ◌≤◌, nat_lt, if◌then◌else◌, Option, Some, None, List, [], ◌∷◌, All, IsSome, length, map}
use Rattle.std.specs.Ordering.{nat_cmp}
use Rattle.std.specs.BTreeMap.{BTreeMap, get}
use Rattle.sharing_report.specs.ByteChanges.{bytes_of_page}
use Rattle.sharing_report.specs.Sharing.{phase_mark, spot_mark}
use Rattle.sharing_report.specs.Tallies.{CountsClashes, CountsShared, CountsTurns, IsThreadSet}
use Rattle.sharing_report.specs.declared.byte_change.ByteChange.{ByteChange}
use Rattle.sharing_report.specs.declared.page_row.PageRow.{PageRow}
use Rattle.sharing_report.specs.declared.page_state.PageState.{PageState}

-- a page's tallies are those of its changed bytes
pub record Knows (state : PageState) (page : ℕ) (bytes : List ByteChange) : Type 0 where
  pub turns : CountsTurns state.turns (map (λ byte. byte.turn) bytes)
  pub count : state.bytes ≡ length bytes
  pub threads : IsThreadSet state.threads (map (λ byte. byte.thread) bytes)
  pub shared : CountsShared state.shared (map phase_mark bytes)
  pub clashes : CountsClashes state.clashes page (map spot_mark bytes)

-- no byte was changed after a turn and a phase
abbrev pub AreUpTo : (turn phase : ℕ) → List ByteChange → Type 0
AreUpTo turn phase bytes = All (λ byte. (byte.turn ≤ turn) × (byte.phase ≤ phase)) bytes

-- each address is of a page
abbrev pub AreOfPage : (page : ℕ) → List ℕ → Type 0
AreOfPage page addresses = All (λ address. address / 4096 * 4096 ≡ page) addresses

-- what is known of a page, where there is anything; nothing else was changed
abbrev pub IsKnown : Option PageState → (page : ℕ) → List ByteChange → Type 0
IsKnown None page bytes = bytes ≡ []
IsKnown (Some state) page bytes = Knows state page bytes

-- what is known of each page is known of its changed bytes
abbrev pub AreKnown : BTreeMap ℕ PageState → List ByteChange → Type 0
AreKnown pages bytes = (page : ℕ) → IsKnown (get nat_cmp pages page) page (bytes_of_page page bytes)

-- what is known of the pages stays known
abbrev pub StayKnown : (old new : BTreeMap ℕ PageState) → Type 0
StayKnown old new = (bytes : List ByteChange) → AreKnown old bytes → AreKnown new bytes

-- each page that there was stays
abbrev pub Stay : (old new : BTreeMap ℕ PageState) → Type 0
Stay old new = (page : ℕ) → IsSome (get nat_cmp old page) → IsSome (get nat_cmp new page)

-- there are the pages of these addresses
abbrev pub HasPages : BTreeMap ℕ PageState → List ℕ → Type 0
HasPages pages addresses = All (λ address. IsSome (get nat_cmp pages (address / 4096 * 4096))) addresses

-- the row that a page's tallies make
abbrev pub row_at : (page : ℕ) → PageState → PageRow
row_at page state = record {
  page = page;
  turns = state.turns.count;
  bytes = state.bytes;
  threads = state.threads.count;
  shared = state.shared.count;
  clashes = state.clashes.count;
}

-- the rows of the pages with a changed byte
abbrev pub rows_of : List (ℕ × PageState) → List PageRow
rows_of [] = []
rows_of (entry ∷ entries) = if nat_lt 0 entry.1.bytes then row_at entry.0 entry.1 ∷ rows_of entries else rows_of entries
