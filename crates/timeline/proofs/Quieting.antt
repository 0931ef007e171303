-- How the positions at which a motion doesn't halt grow.
use Rattle.std.proofs.Common.{◌≡◌, ◌≢◌, ◌∙◌, ℕ, zero, suc, ◌+◌, ◌-◌, ◌<◌, ◌≤◌, false, Option, Some, None, [], refl, sym, ap, subst, arith, inl, inr}
use Rattle.std.proofs.lemmas.Bool.{cases_eq, cases_order}
use Rattle.std.specs.Prelude.{nat_lt, option_and_then}
use Rattle.guest_memory.specs.Memory.{Memory}
use Rattle.hart.specs.HartState.{HartState}
use Rattle.hart.specs.Next.{next}
use Rattle.hart.specs.Segment.{after, left_by}
use Rattle.marked_memory.specs.Unmarked.{RunsUnmarked}
use Rattle.timeline.specs.Halts.{Wanted, calls_next, instruction_halt, waits}
use Rattle.timeline.specs.Moment.{Origin, state_in}
use Rattle.timeline.specs.Quiet.{IsLooked, IsQuiet, IsStill}
use Rattle.timeline.specs.Underway.{IsProgress, IsUnderway, halt_in, is_at_call, origin_of}
use Rattle.timeline.specs.declared.present_segment.SegmentOutcome.{SegmentOutcome}
use Rattle.timeline.specs.declared.present_segment.SegmentOutcome.TheVariants.{Stays, Halts, Over}
use Rattle.timeline.specs.declared.present_segment.PresentSegment.{PresentSegment}
use Rattle.twins.specs.View as views
use Rattle.timeline.proofs.Calling.{and_false}
use Rattle.timeline.proofs.Unmarked.{not_waited, places_in, unmarked_is_quiet}

abbrev pub hart_or : HartState → Option (HartState × Memory) → HartState
hart_or hart None = hart
hart_or hart (Some state) = state.0

abbrev pub memory_or : Memory → Option (HartState × Memory) → Memory
memory_or memory None = memory
memory_or memory (Some state) = state.1

after_plus : (hart then_hart : HartState) (memory then_memory : Memory) (done count : ℕ) → after done hart memory ≡ Some (then_hart, then_memory)
    → after (done + count) hart memory ≡ after count then_hart then_memory
unfolding after
after_plus hart then_hart memory then_memory done zero reached = let none : done + zero ≡ done = omega arith in rw none reached
after_plus hart then_hart memory then_memory done (suc count) reached =
    let more : done + suc count ≡ suc (done + count) = omega arith in
    rw more (ap (option_and_then (λ state. left_by (next state.0 state.1))) (after_plus hart then_hart memory then_memory done count reached))

pub quiet_none : (wanted : Wanted) (origin : Origin) (from : ℕ) → IsQuiet wanted origin from from
quiet_none wanted origin from =
    record { instructions = λ k hart memory low high is. absurd (omega arith); calls = λ k hart memory low high is watched. absurd (omega arith) }

pub still_none : (wanted : Wanted) (origin : Origin) (from : ℕ) → IsStill wanted origin from from
still_none wanted origin from =
    record { instructions = λ k hart memory low high is. absurd (omega arith); calls = λ k hart memory low high is. absurd (omega arith) }

-- what holds of the state at a position holds of every state there
pub at_state : (origin : Origin) (k : ℕ) (P : HartState → Memory → Type 0) (hart other_hart : HartState) (memory other_memory : Memory) → state_in origin k ≡ Some (hart, memory)
    → state_in origin k ≡ Some (other_hart, other_memory) → P hart memory → P other_hart other_memory
at_state origin k P hart other_hart memory other_memory here there holds =
    let same = sym here ∙ there in
    let hart_is : hart ≡ other_hart = ap (hart_or hart) same in
    let memory_is : memory ≡ other_memory = ap (memory_or memory) same in
    subst (λ (memory : Memory). P other_hart memory) memory_is (subst (λ (hart : HartState). P hart memory) hart_is holds)

pub quiet_more : (wanted : Wanted) (origin : Origin) (from to : ℕ) (hart : HartState) (memory : Memory) → IsQuiet wanted origin from to → state_in origin to ≡ Some (hart, memory)
    → instruction_halt wanted origin.work.thread hart memory ≡ None → (from < to → wanted.watches ≢ [] → calls_next origin.work.segment.left to hart memory ≡ false) → IsQuiet wanted origin from (to + 1)
quiet_more wanted origin from to hart memory quiet here none no_call =
    record {
      instructions = λ k other_hart other_memory low high is.
          elim (cases_eq k to) [
            | inl same ↦
                at_state origin to (λ hart memory. instruction_halt wanted origin.work.thread hart memory ≡ None) hart other_hart memory other_memory here (rw same at is) none
            | inr other ↦ quiet.instructions k other_hart other_memory low (omega arith) is
          ];
      calls = λ k other_hart other_memory low high is watched.
          elim (cases_eq k to) [
            | inl same ↦
                rw same (at_state origin to (λ hart memory. calls_next origin.work.segment.left to hart memory ≡ false) hart other_hart memory other_memory here (rw same at is) (no_call (rw same at low) watched))
            | inr other ↦ quiet.calls k other_hart other_memory low (omega arith) is watched
          ];
    }

pub quiet_both : (wanted : Wanted) (origin : Origin) (from mid to : ℕ) → IsQuiet wanted origin from mid → IsStill wanted origin mid to → IsQuiet wanted origin from to
quiet_both wanted origin from mid to quiet still =
    record {
      instructions = λ k hart memory low high is.
          elim (cases_order k mid) [
            | inl same ↦ still.instructions k hart memory (omega arith) high is
            | inr (inl below) ↦ quiet.instructions k hart memory low below is
            | inr (inr above) ↦ still.instructions k hart memory (omega arith) high is
          ];
      calls = λ k hart memory low high is watched.
          elim (cases_order k mid) [
            | inl same ↦ still.calls k hart memory (omega arith) high is
            | inr (inl below) ↦ quiet.calls k hart memory low below is watched
            | inr (inr above) ↦ still.calls k hart memory (omega arith) high is
          ];
    }

-- what was run up to a mark
pub still_by_marks : (wanted : Wanted) (origin : Origin) (done count : ℕ) (hart last_hart : HartState) (memory last_memory : Memory) → state_in origin done ≡ Some (hart, memory)
    → waits wanted.arrival origin.work.thread ≡ false → RunsUnmarked (places_in wanted) hart memory count last_hart last_memory → IsStill wanted origin done (done + count)
still_by_marks wanted origin done count hart last_hart memory last_memory here elsewhere runs =
    let at = λ (k : ℕ) (other_hart : HartState) (other_memory : Memory) (low : done ≤ k) (high : k < done + count) (is : state_in origin k ≡ Some (other_hart, other_memory)).
    let offset : k ≡ done + (k - done) = omega arith in
    let there = sym (after_plus origin.work.segment.hart hart origin.copy memory done (k - done) here) ∙ (rw offset at is) in
    unmarked_is_quiet wanted origin.work.thread other_hart other_memory (not_waited wanted.arrival origin.work.thread other_hart.pc elsewhere)
    (runs.unmarked (k - done) other_hart other_memory (omega arith) there) in
    record {
      instructions = λ k other_hart other_memory low high is. (at k other_hart other_memory low high is).0;
      calls = λ k other_hart other_memory low high is. and_false (nat_lt k origin.work.segment.left) _ (at k other_hart other_memory low high is).1;
    }

-- what comes of a segment that is looked at and then goes on by one instruction
pub looked_by : (wanted : Wanted) (first old new : PresentSegment) (progress : SegmentOutcome) → IsUnderway old → origin_of old ≡ origin_of first
    → IsQuiet wanted (origin_of first) first.done old.done → halt_in wanted old ≡ None
    → (first.done < old.done → wanted.watches ≢ [] → is_at_call old ≡ false) → IsProgress old (old.done + 1) progress new
    → (progress ≡ Stays → ⊥) → IsLooked wanted first progress new
looked_by wanted first old new Stays underway same quiet none no_call progress never = absurd (never refl)
looked_by wanted first old new (Halts halt) underway same quiet none no_call progress never =
    let origin = progress.2 in
    let at_new : state_in (origin_of new) new.done ≡ Some (new.hart, views.cells_of new.view) = progress.1.stands.runs.reached in
    let at_origin = subst (λ (origin : Origin). state_in origin new.done ≡ Some (new.hart, views.cells_of new.view)) origin at_new in
    let there = subst (λ (done : ℕ). state_in (origin_of old) done ≡ Some (new.hart, views.cells_of new.view)) progress.3 at_origin in
    let thread : new.work.thread ≡ old.work.thread = ap (λ (origin : Origin). origin.work.thread) origin in
    let still_none =
    at_state (origin_of old) old.done (λ hart memory. instruction_halt wanted old.work.thread hart memory ≡ None) old.hart new.hart (views.cells_of old.view) (views.cells_of new.view)
    underway.stands.runs.reached there none in
    (rw progress.3 quiet, inr (rw thread still_none, progress.0, progress.4))
looked_by wanted first old new (Over None) underway same quiet none no_call progress never = tt
looked_by wanted first old new (Over (Some end)) underway same quiet none no_call progress never =
    let count : end.count ≡ old.done + 1 = omega (arith, progress.0.1, progress.0.2) in
    let here : state_in (origin_of first) old.done ≡ Some (old.hart, views.cells_of old.view) =
    subst (λ (origin : Origin). state_in origin old.done ≡ Some (old.hart, views.cells_of old.view)) same underway.stands.runs.reached in
    let thread : (origin_of first).work.thread ≡ old.work.thread = ap (λ (origin : Origin). origin.work.thread) (sym same) in
    let left : (origin_of first).work.segment.left ≡ old.work.segment.left = ap (λ (origin : Origin). origin.work.segment.left) (sym same) in
    rw count (quiet_more wanted (origin_of first) first.done old.done old.hart (views.cells_of old.view) quiet here (rw thread none) (rw left no_call))
