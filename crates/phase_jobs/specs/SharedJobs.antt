-- A phase as those who have seats share it, and what a seat learns of its jobs.
use Rattle.std.specs.Prelude.{◌≡◌, ℕ, ◌<◌, Bool, if◌then◌else◌, List}
use Rattle.paged_memory.specs.declared.snapshot.Snapshot.{Snapshot}
use Rattle.claim_table.specs.declared.log.Log.{Log}
use Rattle.claim_table.specs.Logs.{times, with_noted}
use Rattle.claim_table.specs.Seat.{Row, SeatState}
use Rattle.segment.specs.declared.segment.Segment.{Segment}

-- a phase: the row that its seats draw by, its jobs, and the memory that each begins with
pub record PhaseState : Type 0 where
  pub row : Row
  pub jobs : List Segment
  pub base : Snapshot

-- a number below this one was seen
abbrev pub SawBelow : Log → ℕ → Type 0
SawBelow log number = (least : ℕ) × (least < number) × (0 < times least log.seen)

-- the log where a number is noted, if it is to
abbrev pub noted_if : Bool → Log → ℕ → Log
noted_if test log number = if test then with_noted log number else log

-- a seat looked, and did nothing else
pub record Looks (old new : SeatState) : Type 0 where
  pub row : new.row ≡ old.row
  pub number : new.number ≡ old.number
  pub seats : new.log.seats ≡ old.log.seats
  pub drawn : new.log.drawn ≡ old.log.drawn
  pub noted : new.log.noted ≡ old.log.noted
  pub ended : new.log.ended ≡ old.log.ended
  pub seen : (number : ℕ) → 0 < times number old.log.seen → 0 < times number new.log.seen
