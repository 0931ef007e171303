-- What a motion back is told of the steps that it goes back over, and where it ends.
use Rattle.std.specs.Prelude.{◌≡◌, ◌⊎◌, ℕ, ◌+◌, ◌-◌, ◌<◌, ◌≤◌, ◌==◌, ◌^◌, Bool, false, if◌then◌else◌, Option, Some, None, List, Result, IfOk, OnOk}
use Rattle.token.specs.Point.{Point, need_at}
use Rattle.token.specs.declared.turn_fault.TurnFault.{TurnFault}
use Rattle.marked_memory.specs.declared.watch.Watch.{Watch}
use Rattle.timeline.specs.Calls.{call_at}
use Rattle.timeline.specs.Halting.{address_at, event_at, moves_other}
use Rattle.timeline.specs.Halts.{Wanted, asks, first_of}
use Rattle.timeline.specs.Moment.{Moment, moment_at}
use Rattle.timeline.specs.Present.{BeginsAt, CanGoOn, IsSound, StaysInRun, step_of}
use Rattle.timeline.specs.Shown.{own_at}
use Rattle.timeline.specs.declared.halt.Halt.{Halt}
use Rattle.timeline.specs.declared.halt.Halt.TheVariants.{GoesOn, OtherThread, Start}
use Rattle.timeline.specs.declared.present.Present.{Present}
use Rattle.timeline.specs.declared.present_segment.PresentSegment.{PresentSegment}
use Rattle.timeline.specs.declared.scout.FoundHalt.{FoundHalt}

-- the watch event of a step
abbrev pub watched_at : List Watch → Moment → Option Halt
watched_at watches moment = first_of (event_at watches (own_at moment)) (call_at watches moment)

-- what is told of a step at the position after it: that another thread moved, or what was loaded or stored
abbrev pub told_after : Wanted → Moment → Option Halt
told_after wanted moment = if moves_other wanted.alone (need_at moment.point) then Some OtherThread else watched_at wanted.watches moment

-- what is told of a step at the position before it: the address of its instruction
abbrev pub told_before : Wanted → Moment → Option Halt
told_before wanted moment = address_at wanted (own_at moment)

-- A step of a run of which nothing is told.
pub record IsSilent (wanted : Wanted) (start : Point) (step : ℕ) : Type 0 where
  pub moment : Moment
  pub there : moment_at start step ≡ Some moment
  pub after : told_after wanted moment ≡ None
  pub before : told_before wanted moment ≡ None

abbrev pub AreSilent : Wanted → Point → ℕ → ℕ → Type 0
AreSilent wanted start from to = (n : ℕ) → from ≤ n → n < to → IsSilent wanted start n

-- This is told of a step, and there: after it, and else before it.
abbrev pub IsTold : Wanted → Moment → ℕ → Halt → ℕ → Type 0
IsTold wanted moment step halt there =
    ((there ≡ step + 1) × (told_after wanted moment ≡ Some halt))
    ⊎ ((there ≡ step) × (told_after wanted moment ≡ None) × (told_before wanted moment ≡ Some halt))

-- This is told of the last step, of those from one on and before another, of which anything is told.
pub record IsLastTold (wanted : Wanted) (start : Point) (from to : ℕ) (halt : Halt) (there : ℕ) : Type 0 where
  pub step : ℕ
  pub moment : Moment
  pub at_step : moment_at start step ≡ Some moment
  pub since : from ≤ step
  pub within : step < to
  pub told : IsTold wanted moment step halt there
  pub silent : AreSilent wanted start (step + 1) to

abbrev pub IsFound : Wanted → Point → ℕ → ℕ → Option FoundHalt → Type 0
IsFound wanted start from to None = AreSilent wanted start from to
IsFound wanted start from to (Some found) = IsLastTold wanted start from to found.halt found.step

-- what is found from a position to a step of its run
abbrev pub Finds : Wanted → Present → ℕ → Option FoundHalt → Type 0
Finds wanted present to found = (start : Point) → BeginsAt start present → IsFound wanted start (step_of present) to found

-- the answer where nothing is told
abbrev pub nothing_at : ℕ → Halt
nothing_at step = if step == 0 then Start else GoesOn

-- A motion back from a step ends at the last one of which something is told, or further back with nothing told on the way.
abbrev pub GoesBack : Wanted → Point → ℕ → Halt → ℕ → Type 0
GoesBack wanted start here halt there =
    IsLastTold wanted start 0 here halt there
    ⊎ (AreSilent wanted start there here × (there ≤ here - 1) × (halt ≡ nothing_at there))

-- whether something may be told of the next instruction for what it is
abbrev pub looks : Wanted → Option PresentSegment → Bool
looks wanted None = false
looks wanted (Some underway) = asks wanted underway.work.thread

-- what is told of a step for what its instruction is
abbrev pub IsToldOf : Wanted → Moment → ℕ → Option FoundHalt → Type 0
IsToldOf wanted moment step None = (watched_at wanted.watches moment ≡ None) × (told_before wanted moment ≡ None)
IsToldOf wanted moment step (Some found) =
    ((found.step ≡ step + 1) × (watched_at wanted.watches moment ≡ Some found.halt))
    ⊎ ((found.step ≡ step) × (watched_at wanted.watches moment ≡ None) × (told_before wanted moment ≡ Some found.halt))

-- The run goes on from a position as far as a step.
pub record LeadsTo (present : Present) (step : ℕ) : Type 0 where
  pub start : Point
  pub begins : BeginsAt start present
  pub moment : Moment
  pub there : moment_at start step ≡ Some moment

-- It is sound, and its run goes on as far as a step at which it stands or that is to come.
pub record CanReach (present : Present) (until : ℕ) : Type 0 where
  pub sound : IsSound present
  pub few : until ≤ 2 ^ 63
  pub within : step_of present ≤ until
  pub leads : LeadsTo present until

-- It is sound, and its run goes on as far as a step that is to come.
pub record CanPass (present : Present) (until : ℕ) : Type 0 where
  pub goes : CanGoOn present until
  pub leads : LeadsTo present until

-- It goes on in its run, no further than a step, and finds what is told of the way.
pub record Passes (wanted : Wanted) (old : Present) (until : ℕ) (result : Result (Option FoundHalt) TurnFault) (new : Present) : Type 0 where
  pub stays : StaysInRun old new
  pub further : OnOk result (step_of old < step_of new)
  pub within : OnOk result (step_of new ≤ until)
  pub found : IfOk result (Finds wanted old (step_of new))
