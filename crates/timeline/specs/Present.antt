-- What holds of a run at a position.
use Rattle.std.specs.Prelude.{◌≡◌, ◌⊎◌, ℕ, ◌+◌, ◌<◌, ◌≤◌, ◌^◌, Option, Some, None, Result, IfSome, IfOk, OnErr}
use Rattle.token.specs.Point.{Point, IsNeededAt}
use Rattle.token.specs.RunInTurn.{point_of}
use Rattle.token.specs.declared.turn_fault.TurnFault.{TurnFault}
use Rattle.timeline.specs.Last.{IsLast}
use Rattle.timeline.specs.Moment.{Moment, beginning, moment_at, origin_at, turned}
use Rattle.timeline.specs.Underway.{IsUnderway, origin_of}
use Rattle.timeline.specs.declared.present.Present.{Present}
use Rattle.timeline.specs.declared.present_segment.PresentSegment.{PresentSegment}
use Rattle.timeline.specs.declared.present_segment.SegmentOutcome.{SegmentOutcome}
use Rattle.timeline.specs.declared.present_segment.SegmentOutcome.TheVariants.{Stays, Halts, Over}
use Rattle.timeline.specs.declared.halt.Halt.{Halt}
use Rattle.segment.specs.declared.segment_end.SegmentEnd.{SegmentEnd}

-- how many instructions of the present turn were executed
abbrev pub steps_of : Option PresentSegment → ℕ
steps_of None = 0
steps_of (Some underway) = underway.done

-- how many steps were made
abbrev pub step_of : Present → ℕ
step_of present = present.before + steps_of present.underway

-- what stands before the present turn
abbrev pub point_at : Present → Point
point_at present = point_of present.serial.value

-- the position
abbrev pub moment_of : Present → Moment
moment_of present = record { point = point_at present; steps = steps_of present.underway }

-- the segment is the one that the present turn needs
abbrev pub IsTurns : Point → Option PresentSegment → Type 0
IsTurns point None = Unit {0}
IsTurns point (Some underway) = IsUnderway underway × (origin_at point ≡ Some (origin_of underway))

-- What holds of it wherever it stands.
pub record IsSound (present : Present) : Type 0 where
  pub turns : IsTurns (point_at present) present.underway
  pub few : step_of present ≤ 2 ^ 63
  pub quantum : IfSome (point_at present).setup.quantum (λ q. 0 < q)
  pub last : IsLast (point_at present) present.last

-- Its turn begins after so many steps from a start as it says.
abbrev pub BeginsAt : Point → Present → Type 0
BeginsAt start present = moment_at start present.before ≡ Some (beginning (point_at present))

-- Where the segment hasn't begun, the present turn has none.
abbrev pub IsBegun : Point → Option PresentSegment → Type 0
IsBegun point None = origin_at point ≡ None
IsBegun point (Some underway) = Unit {0}

-- It is sound, and a segment that its turn has is begun.
pub record IsReady (present : Present) : Type 0 where
  pub sound : IsSound present
  pub begun : IsBegun (point_at present) present.underway

-- It is ready for a step, which can be counted.
pub record CanStep (present : Present) : Type 0 where
  pub ready : IsReady present
  pub few : step_of present < 2 ^ 63

-- It is sound, and a step is to come, which can be counted.
pub record CanGoOn (present : Present) (until : ℕ) : Type 0 where
  pub sound : IsSound present
  pub further : step_of present < until
  pub few : until ≤ 2 ^ 63

-- It stands in the same turn.
pub record SameTurn (old new : Present) : Type 0 where
  pub serial : new.serial ≡ old.serial
  pub before : new.before ≡ old.before
  pub last : new.last ≡ old.last

-- It is sound, and stands in the same run.
pub record StaysInRun (old new : Present) : Type 0 where
  pub sound : IsSound new
  pub begins : (start : Point) → BeginsAt start old → BeginsAt start new

-- how many steps a turn has that ends so: one at a wake
abbrev pub count_of : Option SegmentEnd → ℕ
count_of None = 1
count_of (Some end) = end.count

-- The turn's end is what the turn needs, and comes no later than after so many of its steps.
pub record IsTurnEnd (present : Present) (most : ℕ) (end : Option SegmentEnd) : Type 0 where
  pub needed : IsNeededAt (point_at present) end
  pub later : steps_of present.underway < count_of end
  pub within : count_of end ≤ most
  pub leads : (start : Point) → BeginsAt start present → moment_at start (present.before + count_of end) ≡ Some (turned (point_at present) end)

-- It is further in the present turn, it halts there, or the turn ends.
abbrev pub IsWent : Present → ℕ → SegmentOutcome → Present → Type 0
IsWent old most Stays new = IsTurns (point_at new) new.underway × (steps_of old.underway < steps_of new.underway) × (steps_of new.underway ≤ most)
IsWent old most (Halts halt) new = IsTurns (point_at new) new.underway × (steps_of old.underway ≤ steps_of new.underway) × (steps_of new.underway < most)
IsWent old most (Over end) new = IsTurnEnd old most end

-- It stands where it stood, or at its turn's start.
pub record IsKeptBack (old new : Present) : Type 0 where
  pub before : new.before ≡ old.before
  pub steps : (steps_of new.underway ≡ steps_of old.underway) ⊎ (steps_of new.underway ≡ 0)

-- It is further, or halts.
abbrev pub IsStep : Present → ℕ → Option Halt → Present → Type 0
IsStep old until None new = (step_of old < step_of new) × (step_of new ≤ until)
IsStep old until (Some halt) new = (step_of old ≤ step_of new) × (step_of new < until)

-- It goes on in its run, as far as a step. Where memory is refused it is kept back.
pub record Proceeds (old : Present) (until : ℕ) (result : Result (Option Halt) TurnFault) (new : Present) : Type 0 where
  pub stays : StaysInRun old new
  pub step : IfOk result (λ halt. IsStep old until halt new)
  pub refused : OnErr result (IsKeptBack old new)
