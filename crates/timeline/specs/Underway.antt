-- What holds of a segment that has begun.
use Rattle.std.specs.Prelude.{◌≡◌, ℕ, ◌+◌, ◌<◌, ◌≤◌, Bool, true, Option, Some, None, IfSome, IsSome}
use Rattle.hart.specs.Segment.{Segment}
use Rattle.guest_memory.specs.Memory.{Memory}
use Rattle.hart.specs.HartState.{HartState}
use Rattle.hart.specs.Slice.{Runs}
use Rattle.hart.specs.declared.stop.Stop.{Stop}
use Rattle.hart.specs.declared.stop.Stop.TheVariants as stopped
use Rattle.hart.specs.declared.trap.Trap.{Trap}
use Rattle.paged_memory.specs.Snapshot as snapshots
use Rattle.twins.specs.View as views
use Rattle.segment.specs.declared.segment_end.SegmentEnd.{SegmentEnd}
use Rattle.segment.specs.Ends.{IsEndOf}
use Rattle.timeline.specs.Halts.{Wanted, calls_next, instruction_halt}
use Rattle.timeline.specs.Moment.{Origin, stop_in}
use Rattle.timeline.specs.declared.halt.Halt.{Halt}
use Rattle.timeline.specs.declared.halt.Halt.TheVariants.{End}
use Rattle.timeline.specs.declared.present_segment.PresentSegment.{PresentSegment}
use Rattle.timeline.specs.declared.present_segment.SegmentOutcome.{SegmentOutcome}
use Rattle.timeline.specs.declared.present_segment.SegmentOutcome.TheVariants.{Stays, Halts, Over}

-- the segment, on the memory that it began with
abbrev pub origin_of : PresentSegment → Origin
origin_of underway = record { work = underway.work; copy = snapshots.cells_of underway.base }

-- the trap that was found after so many steps is the segment's stop there
abbrev pub IsItsTrap : Origin → ℕ → Option Trap → Type 0
IsItsTrap origin done None = Unit {0}
IsItsTrap origin done (Some trap) = stop_in origin done ≡ Some (stopped.Trap trap)

-- A segment has executed so many instructions, to this hart and memory. As long as no trap is found it may go on.
pub record Stands (origin : Origin) (done : ℕ) (trap : Option Trap) (hart : HartState) (cells : Memory) : Type 0 where
  pub runs : Runs origin.work.segment.hart origin.copy origin.work.segment.left origin.work.segment.quantum done hart cells
  pub within : trap ≡ None → done ≤ origin.work.segment.left
  pub quantum : trap ≡ None → IfSome origin.work.segment.quantum (λ q. done < q)
  pub is_trap : IsItsTrap origin done trap

-- It stands at its hart and its view's bytes. Its view goes back to the memory that it began with, or to what a checkpoint had.
pub record IsUnderway (underway : PresentSegment) : Type 0 where
  pub stands : Stands (origin_of underway) underway.done underway.trap underway.hart (views.cells_of underway.view)
  pub under : snapshots.cells_of underway.under ≡ snapshots.cells_of (views.base_of underway.view)
  pub whole : underway.is_whole ≡ true → snapshots.cells_of (views.base_of underway.view) ≡ snapshots.cells_of underway.base

-- It stands at an instruction of which no trap is known, and more are to come.
pub record CanExecute (segment : PresentSegment) (until : ℕ) : Type 0 where
  pub underway : IsUnderway segment
  pub goes : segment.trap ≡ None
  pub further : segment.done < until

-- It stands where it has executed so many instructions or fewer.
pub record CanSkip (segment : PresentSegment) (until : ℕ) : Type 0 where
  pub underway : IsUnderway segment
  pub within : segment.done ≤ until

-- whether an ecall comes next that its bound allows
abbrev pub is_at_call : PresentSegment → Bool
is_at_call underway = calls_next underway.work.segment.left underway.done underway.hart (views.cells_of underway.view)

-- why it halts at its next instruction for what that is
abbrev pub halt_in : Wanted → PresentSegment → Option Halt
halt_in wanted underway = instruction_halt wanted underway.work.thread underway.hart (views.cells_of underway.view)

-- The end is that of the segment, by an ecall or the quantum.
pub record IsLast (origin : Origin) (end : SegmentEnd) : Type 0 where
  pub end_of : IsEndOf origin.copy origin.work.segment end
  pub no_trap : (trap : Trap) → end.stop ≡ stopped.Trap trap → ⊥

-- A trap was found after so many steps: the segment stands there, and halts where it stood there already.
abbrev pub IsTrapped : PresentSegment → Trap → ℕ → SegmentOutcome → PresentSegment → Type 0
IsTrapped old trap count Stays new = (old.done < count) × (new ≡ record old { done = count; trap = Some trap })
IsTrapped old trap count (Halts halt) new = (count ≤ old.done) × (halt ≡ End) × (new ≡ record old { done = count; trap = Some trap })
IsTrapped old trap count (Over end) new = ⊥

-- the turn is over with the segment's end, which has this stop and count
abbrev pub IsOver : Origin → Stop → ℕ → SegmentOutcome → Type 0
IsOver origin stop count Stays = ⊥
IsOver origin stop count (Halts halt) = ⊥
IsOver origin stop count (Over end) = IfSome end (λ end. IsEndOf origin.copy origin.work.segment end × (end.stop ≡ stop) × (end.count ≡ count)) × IsSome end

-- the segment stopped so after so many instructions
abbrev pub IsStopped : PresentSegment → Stop → ℕ → SegmentOutcome → PresentSegment → Type 0
IsStopped old (stopped.Trap trap) count progress new = IsTrapped old trap count progress new
IsStopped old stopped.Ecall count progress new = IsOver (origin_of old) stopped.Ecall count progress
IsStopped old stopped.Quantum count progress new = IsOver (origin_of old) stopped.Quantum count progress

-- the segment ends so where it stands
abbrev pub EndsHere : PresentSegment → Stop → ℕ → Type 0
EndsHere underway stop count =
    Segment underway.work.segment.hart (origin_of underway).copy underway.work.segment.left underway.work.segment.quantum stop count underway.hart (views.cells_of underway.view)
    × (underway.is_whole ≡ true → snapshots.cells_of (views.base_of underway.view) ≡ snapshots.cells_of underway.base)

-- the segment has executed more, or is over after no more than that
abbrev pub IsProgress : PresentSegment → ℕ → SegmentOutcome → PresentSegment → Type 0
IsProgress old until Stays new = IsUnderway new × (origin_of new ≡ origin_of old) × (old.done < new.done) × (new.done ≤ until)
IsProgress old until (Halts halt) new = (halt ≡ End) × IsUnderway new × (origin_of new ≡ origin_of old) × (new.done ≡ old.done) × ((trap : Trap) × (new.trap ≡ Some trap))
IsProgress old until (Over end) new = IfSome end (λ end. IsLast (origin_of old) end × (old.done < end.count) × (end.count ≤ until)) × IsSome end

-- The same, where it may have halted for something else.
abbrev pub IsFurther : PresentSegment → ℕ → SegmentOutcome → PresentSegment → Type 0
IsFurther old until Stays new = IsUnderway new × (origin_of new ≡ origin_of old) × (old.done < new.done) × (new.done ≤ until)
IsFurther old until (Halts halt) new = IsUnderway new × (origin_of new ≡ origin_of old) × (old.done ≤ new.done) × (new.done < until)
IsFurther old until (Over end) new = IfSome end (λ end. IsLast (origin_of old) end × (old.done < end.count) × (end.count ≤ until)) × IsSome end

-- so many instructions, up to so many in all, end it neither by its bound nor by its quantum
pub record IsRoom (underway : PresentSegment) (until room : ℕ) : Type 0 where
  pub asked : underway.done ≤ until → underway.done + room ≤ until
  pub bound : underway.trap ≡ None → underway.done + room ≤ underway.work.segment.left
  pub quantum : underway.trap ≡ None → IfSome underway.work.segment.quantum (λ q. underway.done + room < q)

-- It has come further, to no more instructions than so many, and stands there.
pub record IsSkipped (old : PresentSegment) (until : ℕ) (new : PresentSegment) : Type 0 where
  pub underway : IsUnderway new
  pub same : origin_of new ≡ origin_of old
  pub since : old.done ≤ new.done
  pub within : new.done ≤ until
  pub trap : new.trap ≡ old.trap
