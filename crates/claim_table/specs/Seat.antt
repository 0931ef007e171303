-- What a row, its seats and their logs are to callers.
use Rattle.std.specs.Prelude.{◌≡◌, ℕ, ◌<◌, Bool, false, nat_lt, Option, Some, None, List, [], filter, length, slice_index_or}
use Rattle.std.specs.List.{range_with_len}
use Rattle.atomic_table.specs.Seated.{TableId}
use Rattle.atomic_table.specs.Table.{Me}
use Rattle.claim_table.specs.declared.log.Log.{Log}
use Rattle.claim_table.specs.declared.size.Size.{Size}
use Rattle.claim_table.specs.declared.seat_view.SeatView.{SeatView}
use Rattle.claim_table.specs.Logs.{most_jobs, with_drawn, with_end, with_seen, new_log, times, one_if, NotesDrawn}

-- which row of words it is, and its size
pub record Row : Type 0 where
  pub table : TableId
  pub size : Size

-- a seat: its row, its number among the row's seats from 0, and its log
pub record SeatState : Type 0 where
  pub row : Row
  pub number : ℕ
  pub log : Log

-- the view of a seat whose log went over to another's
abbrev pub spent : SeatView
spent = record { size = record { jobs = 0; seats = 0 }; log = new_log 0 }

-- the log after a draw with this answer, and after a look with this answer
abbrev pub drew : Log → Option ℕ → Log
drew log (Some number) = with_drawn log number
drew log None = with_end log

abbrev pub saw : Log → Option ℕ → Log
saw log (Some number) = with_seen log number
saw log None = log

-- the numbers of a list, ascending and each once
unfoldable pub ascending : List ℕ → List ℕ
ascending numbers = filter (λ number. nat_lt 0 (times number numbers)) (range_with_len 0 most_jobs)

-- the numbers below a bound that are marked, ascending
unfoldable pub members : ℕ → List Bool → List ℕ
members bound marks = filter (λ number. slice_index_or marks number false) (range_with_len 0 bound)

-- what a seat did in the end: the numbers that it drew in their order, those that it noted and saw ascending, and whether it ended
pub record Done : Type 0 where
  pub drawn : List ℕ
  pub noted : List ℕ
  pub seen : List ℕ
  pub ended : Bool

abbrev pub done : Log → Done
done log = record { drawn = log.drawn; noted = ascending log.noted; seen = ascending log.seen; ended = nat_lt 0 log.ended }

-- the marks say which numbers stand in a list
abbrev pub AreMarks : List Bool → List ℕ → Type 0
AreMarks marks numbers = (number : ℕ) → number < most_jobs → slice_index_or marks number false ≡ nat_lt 0 (times number numbers)

-- what a seat keeps of what it knows
pub record IsSeat {S : Type 0} (me : Me S SeatView) (number : ℕ) (drawn : List ℕ) (noted : List Bool) (seen : List Bool) (ended : Bool) : Type 0 where
  pub slots : me.1 ≡ []
  pub one : me.0.log.seats ≡ 1
  pub numbered : number < me.0.size.seats
  pub drawn_is : drawn ≡ me.0.log.drawn
  pub noted_is : AreMarks noted me.0.log.noted
  pub seen_is : AreMarks seen me.0.log.seen
  pub ended_is : me.0.log.ended ≡ one_if ended
  pub notes_drawn : NotesDrawn me.0.log
  pub below : (number : ℕ) → 0 < times number me.0.log.drawn → number < me.0.size.jobs
  pub room : (length noted ≡ most_jobs) × (length seen ≡ most_jobs)
