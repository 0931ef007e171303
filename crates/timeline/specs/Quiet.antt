-- The positions of a segment at which a motion doesn't halt.
use Rattle.std.specs.Prelude.{◌≡◌, ◌≢◌, ◌⊎◌, ℕ, ◌<◌, ◌≤◌, false, Some, None, IfSome, []}
use Rattle.guest_memory.specs.Memory.{Memory}
use Rattle.hart.specs.HartState.{HartState}
use Rattle.hart.specs.declared.trap.Trap.{Trap}
use Rattle.timeline.specs.Halts.{Wanted, calls_next, instruction_halt}
use Rattle.timeline.specs.Moment.{Origin, state_in}
use Rattle.timeline.specs.Underway.{IsSkipped, halt_in, origin_of}
use Rattle.timeline.specs.declared.halt.Halt.{Halt}
use Rattle.timeline.specs.declared.halt.Halt.TheVariants.{End}
use Rattle.timeline.specs.declared.present_segment.SegmentOutcome.{SegmentOutcome}
use Rattle.timeline.specs.declared.present_segment.SegmentOutcome.TheVariants.{Stays, Halts, Over}
use Rattle.timeline.specs.declared.present_segment.PresentSegment.{PresentSegment}

-- It halts at none of these for the instruction, and none is a call.
pub record IsStill (wanted : Wanted) (origin : Origin) (from to : ℕ) : Type 0 where
  pub instructions : (k : ℕ) (hart : HartState) (memory : Memory) → from ≤ k → k < to → state_in origin k ≡ Some (hart, memory)
      → instruction_halt wanted origin.work.thread hart memory ≡ None
  pub calls : (k : ℕ) (hart : HartState) (memory : Memory) → from ≤ k → k < to → state_in origin k ≡ Some (hart, memory) → calls_next origin.work.segment.left k hart memory ≡ false

-- It has come further, and halts at none of the instructions on the way.
pub record IsSkippedStill (wanted : Wanted) (old : PresentSegment) (until : ℕ) (new : PresentSegment) : Type 0 where
  pub skipped : IsSkipped old until new
  pub still : IsStill wanted (origin_of old) old.done new.done

-- It halts at none of these for the instruction, and after the first one no call comes next if something is watched.
pub record IsQuiet (wanted : Wanted) (origin : Origin) (from to : ℕ) : Type 0 where
  pub instructions : (k : ℕ) (hart : HartState) (memory : Memory) → from ≤ k → k < to → state_in origin k ≡ Some (hart, memory)
      → instruction_halt wanted origin.work.thread hart memory ≡ None
  pub calls : (k : ℕ) (hart : HartState) (memory : Memory) → from < k → k < to → state_in origin k ≡ Some (hart, memory) → wanted.watches ≢ []
      → calls_next origin.work.segment.left k hart memory ≡ false

-- It halts for the instruction, or at the end for a trap.
abbrev pub HaltsSo : Wanted → Halt → PresentSegment → Type 0
HaltsSo wanted halt underway =
    (halt_in wanted underway ≡ Some halt) ⊎ ((halt_in wanted underway ≡ None) × (halt ≡ End) × ((trap : Trap) × (underway.trap ≡ Some trap)))

-- It doesn't halt on the way.
abbrev pub IsLooked : Wanted → PresentSegment → SegmentOutcome → PresentSegment → Type 0
IsLooked wanted old Stays new = IsQuiet wanted (origin_of old) old.done new.done
IsLooked wanted old (Halts halt) new = IsQuiet wanted (origin_of old) old.done new.done × HaltsSo wanted halt new
IsLooked wanted old (Over end) new = IfSome end (λ end. IsQuiet wanted (origin_of old) old.done end.count)
