-- Runs of mapped pages, by the numbers of the pages.
use Rattle.std.specs.Prelude.{◌≡◌, ◌≢◌, ◌⊎◌, ℕ, zero, suc, ◌+◌, ◌*◌, ◌^◌, ◌<◌, ◌≤◌, Bool, ◌&&◌, true, nat_le, nat_lt, Option, Some, None, MatchOption, IsSome, List, [], ◌∷◌, ◌++◌, All, length, map, sum_by}
use Rattle.std.specs.List.{list_any}
use Rattle.guest_memory.specs.Layout.{page_size}
use Rattle.guest_memory.specs.declared.perm.Perm.{Perm}
use Rattle.elf32_reader.specs.LoadSegment.{LoadSegment}
use Rattle.paged_memory.specs.Page.{PageValue}
use Rattle.paged_memory.specs.PageMap.{PageMap}
use Rattle.core_file.specs.declared.run.Run.{Run}

-- the bytes of a page, none if it isn't mapped
abbrev pub page_bytes : Option PageValue → List ℕ
page_bytes None = []
page_bytes (Some page) = page.bytes

-- the bytes of so many pages from a number on
unfoldable pub bytes_from : PageMap → (first count : ℕ) → List ℕ
bytes_from pages first zero = []
bytes_from pages first (suc count) = bytes_from pages first count ++ page_bytes (pages (first + count))

-- a run as a segment
abbrev pub load_of : PageMap → Run → LoadSegment
load_of pages run =
    record { vaddr = page_size * run.first; memsz = page_size * run.count; perm = run.perm; bytes = bytes_from pages run.first run.count }

abbrev pub loads_of : PageMap → List Run → List LoadSegment
loads_of pages runs = map (load_of pages) runs

-- a run has pages, and none beyond the last page number
pub record IsPlaced (run : Run) : Type 0 where
  pub not_empty : 0 < run.count
  pub within : run.first + run.count ≤ 2 ^ 20

-- a run ends where another begins, and permits the same
abbrev pub GoesOnWith : Run → Run → Type 0
GoesOnWith run next = (run.first + run.count ≡ next.first) × (run.perm ≡ next.perm)

-- the run with a page more
abbrev pub longer : Run → Run
longer run = record run { count = run.count + 1 }

-- a page is mapped, and permits this
abbrev pub IsMappedAs : Perm → Option PageValue → Type 0
IsMappedAs perm page = MatchOption page ⊥ (λ page. (page.perm ≡ perm) × (length page.bytes ≡ page_size))

-- a run has pages, all of them mapped with its permission, and below a limit
pub record IsRunBelow (pages : PageMap) (limit : ℕ) (run : Run) : Type 0 where
  pub not_empty : 0 < run.count
  pub below : run.first + run.count ≤ limit
  pub mapped : (number : ℕ) → run.first ≤ number → number < run.first + run.count → IsMappedAs run.perm (pages number)

-- whether a run has the page with a number
abbrev pub has : ℕ → Run → Bool
has number run = nat_le run.first number && nat_lt number (run.first + run.count)

-- a run lies before another, and can't go on with it
abbrev pub EndsBefore : Run → Run → Type 0
EndsBefore one next = (one.first + one.count < next.first) ⊎ ((one.first + one.count ≡ next.first) × (one.perm ≢ next.perm))

abbrev pub AreApart : List Run → Type 0
AreApart [] = Unit {0}
AreApart (one ∷ []) = Unit {0}
AreApart (one ∷ next ∷ runs) = EndsBefore one next × AreApart (next ∷ runs)

-- how many pages runs have
abbrev pub pages_in : List Run → ℕ
pages_in runs = sum_by (λ run. run.count) runs

-- the runs of the pages below a limit, and how many pages these are
pub record AreRunsBelow (pages : PageMap) (limit : ℕ) (runs : List Run) (total : ℕ) : Type 0 where
  pub each : All (IsRunBelow pages limit) runs
  pub every : (number : ℕ) → number < limit → IsSome (pages number) → list_any (has number) runs ≡ true
  pub apart : AreApart runs
  pub counted : total ≡ pages_in runs
  pub few : total ≤ limit

-- The last of some runs is longer by a page.
pub record IsLonger (old : List Run) (next : Run) (new : List Run) : Type 0 where
  pub before : List Run
  pub last : Run
  pub was : old ≡ before ++ last ∷ []
  pub goes_on : GoesOnWith last next
  pub is : new ≡ before ++ longer last ∷ []

-- A run is added, which the last one doesn't go on with.
pub record IsAdded (old : List Run) (next : Run) (new : List Run) : Type 0 where
  pub apart : (before : List Run) (last : Run) → old ≡ before ++ last ∷ [] → ¬ GoesOnWith last next
  pub is : new ≡ old ++ next ∷ []
