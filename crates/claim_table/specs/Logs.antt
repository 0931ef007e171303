-- What seats have done, one by one and together.
use Rattle.std.specs.Prelude.{◌≡◌, ℕ, ◌+◌, ◌<◌, Bool, ◌==◌, if◌then◌else◌, List, [], ◌∷◌, ◌++◌, length}
use Rattle.claim_table.specs.declared.log.Log.{Log}
use Rattle.abi.specs.Limits as limit

-- the most jobs of a phase, and the most seats
abbrev pub most_jobs : ℕ
most_jobs = 256

abbrev pub most_seats : ℕ
most_seats = limit.workers

abbrev pub one_if : Bool → ℕ
one_if test = if test then 1 else 0

-- how often a number stands in a list
unfoldable pub times : ℕ → List ℕ → ℕ
times number [] = 0
times number (other ∷ others) = one_if (other == number) + times number others

-- what is counted of each log, added up
unfoldable pub total : (Log → ℕ) → List Log → ℕ
total count [] = 0
total count (log ∷ logs) = count log + total count logs

-- what some seats have done together: how often each number was drawn, noted and seen, how many draws gave a number, and how many
-- seats have ended
pub record Tally : Type 0 where
  pub drawn : ℕ → ℕ
  pub noted : ℕ → ℕ
  pub seen : ℕ → ℕ
  pub entries : ℕ
  pub ended : ℕ

abbrev pub tally : List Log → Tally
tally logs = record {
  drawn = λ number. total (λ log. times number log.drawn) logs;
  noted = λ number. total (λ log. times number log.noted) logs;
  seen = λ number. total (λ log. times number log.seen) logs;
  entries = total (λ log. length log.drawn) logs;
  ended = total (λ log. log.ended) logs;
}

-- what they have done together is the same
pub record IsSame (a b : Tally) : Type 0 where
  pub drawn : (number : ℕ) → a.drawn number ≡ b.drawn number
  pub noted : (number : ℕ) → a.noted number ≡ b.noted number
  pub seen : (number : ℕ) → a.seen number ≡ b.seen number
  pub entries : a.entries ≡ b.entries
  pub ended : a.ended ≡ b.ended

-- the log of so many seats that have done nothing yet
abbrev pub new_log : ℕ → Log
new_log seats = record { seats = seats; drawn = []; noted = []; seen = []; ended = 0 }

-- the log after a draw that gave a number, after one that gave none, after a note and after a look
abbrev pub with_drawn : Log → ℕ → Log
with_drawn log number = record log { drawn = log.drawn ++ number ∷ [] }

abbrev pub with_end : Log → Log
with_end log = record log { ended = 1 }

abbrev pub with_noted : Log → ℕ → Log
with_noted log number = record log { noted = log.noted ++ number ∷ [] }

abbrev pub with_seen : Log → ℕ → Log
with_seen log number = record log { seen = log.seen ++ number ∷ [] }

-- the log of two logs' seats
abbrev pub both : Log → Log → Log
both a b = record { seats = a.seats + b.seats; drawn = a.drawn ++ b.drawn; noted = a.noted ++ b.noted; seen = a.seen ++ b.seen; ended = a.ended + b.ended }

-- a number that was noted was drawn by the same seats
abbrev pub NotesDrawn : Log → Type 0
NotesDrawn log = (number : ℕ) → 0 < times number log.noted → 0 < times number log.drawn
