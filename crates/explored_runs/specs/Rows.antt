-- Rows of runs: which numbers each counts.
use Rattle.std.specs.Prelude.{◌≡◌, ◌≢◌, ◌⊎◌, ℕ, ◌+◌, ◌<◌, ◌≤◌, List, [], ◌∷◌, length, All}
use Rattle.std.specs.List.{AllZip, concat}
use Rattle.shuffled_phases.specs.Lists.{times}
use Rattle.explored_runs.specs.declared.ending.Ending.{Ending}
use Rattle.explored_runs.specs.declared.row.Row.{Row}

-- what is said of the run of a number: how it ended, and the last line of its output
abbrev pub Telling : Type 1
Telling = (number : ℕ) → Ending → (line : List ℕ) → Type 0

-- A row counts these numbers: the run of each ended as the row says, and the row's first number, with its last line, is the least of them.
pub record CountsRuns (Is : Telling) (row : Row) (numbers : List ℕ) : Type 0 where
  pub runs : row.runs ≡ length numbers
  pub each : All (λ number. (line : List ℕ) × Is number row.ending line) numbers
  pub first : 0 < times row.first numbers
  pub least : All (λ number. row.first ≤ number) numbers
  pub line : Is row.first row.ending row.line.items

-- the rows are in the order of their first numbers, and no two have one ending
abbrev pub AreInOrder : List Row → Type 0
AreInOrder [] = Unit {0}
AreInOrder (row ∷ rows) = All (λ (other : Row). (row.first < other.first) × (row.ending ≢ other.ending)) rows × AreInOrder rows

-- Each number of a range is counted in one of the rows, once, and no other number is.
pub record AreRowsOf (Is : Telling) (from runs : ℕ) (rows : List Row) : Type 0 where
  -- the numbers that each row counts
  pub counted : List (List ℕ)
  pub count : AllZip (CountsRuns Is) rows counted
  pub once : (number : ℕ) → from ≤ number → number < from + runs → times number (concat counted) ≡ 1
  pub only : (number : ℕ) → 0 < times number (concat counted) → (from ≤ number) × (number < from + runs)
  pub all : length (concat counted) ≡ runs
  pub order : AreInOrder rows

-- a row that counts one run more
abbrev pub one_more : Row → Row
one_more row = record row { runs = row.runs + 1 }

-- a row that counts one run, the first of its kind
pub record CountsFirst (number : ℕ) (ended : Ending) (last : List ℕ) (row : Row) : Type 0 where
  pub ending : row.ending ≡ ended
  pub line : row.line.items ≡ last
  pub runs : row.runs ≡ 1
  pub first : row.first ≡ number

-- The run of a number is counted, which ended so and whose output has this last line: by the row with its ending, or by a new row at the end.
abbrev pub Counts : (number : ℕ) → Ending → (line : List ℕ) → (rows rows' : List Row) → Type 0
Counts number ending line [] rows' = (row : Row) × (rows' ≡ row ∷ []) × CountsFirst number ending line row
Counts number ending line (row ∷ rows) [] = ⊥
Counts number ending line (row ∷ rows) (row' ∷ rows') =
    ((row.ending ≡ ending) × (row' ≡ one_more row) × (rows' ≡ rows)) ⊎ ((row.ending ≢ ending) × (row' ≡ row) × Counts number ending line rows rows')
