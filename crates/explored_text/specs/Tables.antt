-- The text of an exploration: its head, and a table with a line for each row.
use Rattle.std.specs.Prelude.{ℕ, ◌+◌, ◌-◌, ◌==◌, if◌then◌else◌, max, List, [], ◌++◌, length, take, replicate, fold, codes, decimal, encode_utf8}
use Rattle.std.specs.List.{flat_map}
use Rattle.run_digest.specs.Texts.{hash_text, outcome_text}
use Rattle.explored_runs.specs.declared.row.Row.{Row}
use Rattle.explored_text.specs.declared.widths.Widths.{Widths}

-- so many spaces
abbrev pub spaces : ℕ → List ℕ
spaces count = replicate count 32

-- a text at the right end of a column, and at its left end
abbrev pub at_right : (width : ℕ) → List ℕ → List ℕ
at_right width text = spaces (width - length text) ++ text

abbrev pub at_left : (width : ℕ) → List ℕ → List ℕ
at_left width text = text ++ spaces (width - length text)

-- the widths of columns that have these and a row's texts in them
abbrev pub widened : Widths → Row → Widths
widened widths row = record {
  runs = max widths.runs (length (decimal row.runs));
  first = max widths.first (length (decimal row.first));
  outcome = max widths.outcome (length (outcome_text row.ending.outcome));
}

-- the widths that the titles need, of which the first one is indented by three spaces
abbrev pub narrowest : Widths
narrowest = record { runs = 7; first = 5; outcome = 7 }

-- the widths of the columns of a table with these rows
unfoldable pub widths_of : List Row → Widths
widths_of rows = fold widened narrowest rows

-- three texts in their columns, and the space before the last one
abbrev pub columns : Widths → (runs first outcome : List ℕ) → List ℕ
columns widths runs first outcome =
    at_right widths.runs runs ++ codes "  " ++ at_right widths.first first ++ codes "  " ++ at_left widths.outcome outcome ++ codes "  "

-- the first 16 digits of an output's SHA-256, and its last line
unfoldable pub output_text : Row → List ℕ
output_text row = hash_text (take 8 row.ending.digest) ++ codes "  \"" ++ flat_map encode_utf8 row.line.items ++ codes "\""

-- the line of a row
unfoldable pub row_text : Widths → Row → List ℕ
row_text widths row = columns widths (decimal row.runs) (decimal row.first) (outcome_text row.ending.outcome) ++ output_text row ++ codes "\n"

-- the lines of rows
unfoldable pub rows_text : Widths → List Row → List ℕ
rows_text widths rows = flat_map (row_text widths) rows

-- a number and what it counts
abbrev pub counted : ℕ → (word : List ℕ) → List ℕ
counted count word = decimal count ++ codes " " ++ word ++ (if count == 1 then [] else codes "s")

-- the text of so many runs that have these rows
unfoldable pub table_text : (runs : ℕ) → List Row → List ℕ
table_text runs rows =
    counted runs (codes "run") ++ codes ", " ++ counted (length rows) (codes "outcome") ++ codes "\n"
    ++ columns (widths_of rows) (codes "runs") (codes "first") (codes "outcome") ++ codes "output\n" ++ rows_text (widths_of rows) rows
