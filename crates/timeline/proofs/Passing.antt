-- The positions of a turn that are passed are such at which a motion doesn't halt.
use Rattle.std.proofs.Common.{◌≡◌, ◌∙◌, ℕ, ◌+◌, ◌<◌, ◌≤◌, Bool, true, false, Option, Some, None, List, [], Result, Ok, Err, length, refl, sym, ap, subst, arith, inl, inr}
use Rattle.std.proofs.lemmas.Bool.{cases_eq, cases_order}
use Rattle.std.proofs.lemmas.Bool.Decides.{nat_tests}
use Rattle.std.proofs.lemmas.List.{nil_from_length}
use Rattle.std.specs.Prelude.{◌==◌, ◌||◌, is_some, not, option_map, option_and_then}
use Rattle.std.specs.Result.{IfOk}
use Rattle.guest_memory.specs.Memory.{Memory}
use Rattle.hart.specs.HartState.{HartState}
use Rattle.hart.specs.Segment.{counted}
use Rattle.hart.specs.declared.stop.Stop.{Stop}
use Rattle.hart.specs.declared.stop.Stop.TheVariants as stopped
use Rattle.hart.specs.declared.trap.Trap.{Trap}
use Rattle.segment.specs.declared.segment_end.SegmentEnd.{SegmentEnd}
use Rattle.token.specs.Point.{Point, need_at}
use Rattle.token.specs.declared.need.Need.{Need}
use Rattle.token.specs.declared.need.Need.TheVariants as need
use Rattle.marked_memory.specs.declared.watch.Watch.{Watch}
use Rattle.twins.specs.View as views
use Rattle.token.specs.declared.outcome.RunOutcome.{RunOutcome}
use Rattle.timeline.specs.Halting.{ArePlain, IsPassed, IsPlain, address_at, end_at, end_by_need, end_by_stop, event_at, step_halt}
use Rattle.timeline.specs.Halts.{Wanted, access_event, address_halt, asks, calls_next, first_of, instruction_halt, next_access, told_or_end, waits}
use Rattle.timeline.specs.Moment.{Origin, moment_at, state_in, stop_in, origin_at, origin_by}
use Rattle.timeline.specs.Backward.{looks}
use Rattle.ecalls.specs.Request.{call_of}
use Rattle.timeline.specs.Calls.{call_at, call_by, call_event, count_read, joint_in, read_by}
use Rattle.timeline.specs.Present.{IsBegun, IsTurns, moment_of, point_at, steps_of}
use Rattle.timeline.specs.Quiet.{HaltsSo, IsLooked, IsQuiet, IsSkippedStill}
use Rattle.timeline.specs.Underway.{IsFurther, IsItsTrap, IsLast, IsProgress, IsUnderway, halt_in, is_at_call, origin_of}
use Rattle.timeline.specs.Shown.{Executing, own_at, own_by}
use Rattle.timeline.specs.declared.halt.Halt.{Halt}
use Rattle.timeline.specs.declared.halt.Halt.TheVariants.{End}
use Rattle.timeline.specs.declared.present.Present.{Present}
use Rattle.timeline.specs.declared.present_segment.SegmentOutcome.{SegmentOutcome}
use Rattle.timeline.specs.declared.present_segment.SegmentOutcome.TheVariants.{Stays, Halts, Over}
use Rattle.timeline.specs.declared.present_segment.PresentSegment.{PresentSegment}
use Rattle.timeline.proofs.Calling.{call_nothing, call_passed, call_quiet, call_without, event_no_call, no_call}
use Rattle.timeline.proofs.Places.{no_event}
use Rattle.timeline.proofs.Positions.{within_turn}
use Rattle.timeline.proofs.Quieting.{at_state}
use Rattle.timeline.proofs.Unmarked.{first_false, not_waited, other_false}

pub first_none : (one other : Option Halt) → first_of one other ≡ None → (one ≡ None) × (other ≡ None)
first_none None other is = (refl, is)
first_none (Some halt) other is = absurd (cc)

pub first_some : (one other rest : Option Halt) (halt : Halt) → first_of one other ≡ Some halt → first_of one (first_of other rest) ≡ Some halt
first_some None None rest halt is = absurd (cc)
first_some None (Some other) rest halt is = is
first_some (Some one) other rest halt is = is

abbrev executing : Origin → Option (HartState × Memory) → Option Executing
executing origin state = option_map (λ state. record { thread = origin.work.thread; hart = state.0; memory = state.1 }) state

own_in : (point : Point) (origin : Origin) (steps : ℕ) → origin_at point ≡ Some origin → own_at (record { point = point; steps = steps }) ≡ executing origin (state_in origin steps)
unfolding own_at
own_in point origin steps is = ap (λ (origin : Option Origin). own_by origin steps) is

instruction_none : (wanted : Wanted) (origin : Origin) (state : Option (HartState × Memory))
    → ((hart : HartState) (memory : Memory) → state ≡ Some (hart, memory) → instruction_halt wanted origin.work.thread hart memory ≡ None)
    → (address_at wanted (executing origin state) ≡ None) × (event_at wanted.watches (executing origin state) ≡ None)
instruction_none wanted origin None each = (refl, refl)
instruction_none wanted origin (Some state) each =
    first_none (address_halt wanted origin.work.thread state.0.pc) (access_event wanted.watches (next_access state.0 state.1)) (each state.0 state.1 refl)

needed_by : (point : Point) (asked : Need) (origin : Origin) → origin_by point asked ≡ Some origin → end_by_need asked ≡ None
needed_by point (need.Segment work) origin is = refl
needed_by point (need.Keeper work) origin is = refl
needed_by point (need.Wake thread) origin is = absurd (cc)
needed_by point (need.Ended outcome) origin is = absurd (cc)

needed : (point : Point) (origin : Origin) → origin_at point ≡ Some origin → end_by_need (need_at point) ≡ None
unfolding origin_at
needed point origin is = needed_by point (need_at point) origin is

no_trap_end : (stop : Option Stop) → ((trap : Trap) → stop ≡ Some (stopped.Trap trap) → ⊥) → end_by_stop stop ≡ None
no_trap_end None never = refl
no_trap_end (Some (stopped.Trap trap)) never = absurd (never trap refl)
no_trap_end (Some stopped.Ecall) never = refl
no_trap_end (Some stopped.Quantum) never = refl

end_in : (point : Point) (origin : Origin) (steps : ℕ) → origin_at point ≡ Some origin → end_at (record { point = point; steps = steps }) ≡ first_of (end_by_stop (stop_in origin steps)) None
unfolding end_at
end_in point origin steps is =
    ap (λ (found : Option Origin). first_of (end_by_stop (option_and_then (λ origin. stop_in origin steps) found)) (end_by_need (need_at point))) is
    ∙ ap (first_of (end_by_stop (stop_in origin steps))) (needed point origin is)

plain : (wanted : Wanted) (point : Point) (origin : Origin) (steps : ℕ) → origin_at point ≡ Some origin
    → ((hart : HartState) (memory : Memory) → state_in origin steps ≡ Some (hart, memory) → instruction_halt wanted origin.work.thread hart memory ≡ None)
    → call_at wanted.watches (record { point = point; steps = steps }) ≡ None → ((trap : Trap) → stop_in origin steps ≡ Some (stopped.Trap trap) → ⊥)
    → ((k : ℕ) → k < steps → stop_in origin k ≡ None) → (stop_in origin steps ≡ Some stopped.Quantum → ⊥) → IsPlain wanted point steps
plain wanted point origin steps is each call never runs no_quantum =
    let own = own_in point origin steps is in
    let none = instruction_none wanted origin (state_in origin steps) each in
    record {
      within = λ start before begins. within_turn start point origin before steps begins is runs no_quantum;
      address = ap (address_at wanted) own ∙ none.0;
      call = call;
      event = ap (event_at wanted.watches) own ∙ none.1;
      end = end_in point origin steps is ∙ ap (λ (stop : Option Halt). first_of stop None) (no_trap_end (stop_in origin steps) never);
    }

-- what is known of the positions that a segment passed
abbrev pub StillBy : Wanted → PresentSegment → SegmentOutcome → PresentSegment → Type 0
StillBy wanted old Stays new = IsQuiet wanted (origin_of old) old.done new.done
StillBy wanted old (Halts halt) new = IsQuiet wanted (origin_of old) old.done new.done × HaltsSo wanted halt new
StillBy wanted old (Over None) new = Unit {0}
StillBy wanted old (Over (Some end)) new = IsQuiet wanted (origin_of old) old.done end.count

pub looked_still : (wanted : Wanted) (old new : PresentSegment) (progress : SegmentOutcome) → IsLooked wanted old progress new → StillBy wanted old progress new
looked_still wanted old new Stays is = is
looked_still wanted old new (Halts halt) is = is
looked_still wanted old new (Over None) is = tt
looked_still wanted old new (Over (Some end)) is = is

-- before its end a segment finds no trap
counted_by : (stop : Stop) (steps : ℕ) → counted stop steps ≤ steps + 1
counted_by (stopped.Trap trap) steps = omega arith
counted_by stopped.Ecall steps = omega arith
counted_by stopped.Quantum steps = omega arith

never_traps : (origin : Origin) (end : SegmentEnd) (k : ℕ) (trap : Trap) → IsLast origin end → k < end.count → stop_in origin k ≡ Some (stopped.Trap trap) → ⊥
never_traps origin end k trap last within is =
    let segment = last.end_of.segment_is in
    let most : end.count ≤ segment.steps + 1 = rw segment.count_is (counted_by end.stop segment.steps) in
    elim (cases_eq k segment.steps) [
      | inl same ↦
          let stops : Some end.stop ≡ Some (stopped.Trap trap) = sym segment.stops ∙ ap (stop_in origin) (sym same) ∙ is in
          last.no_trap trap (ap (stop_or end.stop) stops)
      | inr other ↦ let none = segment.running k (omega arith) in cc
    ]
  where
    stop_or : Stop → Option Stop → Stop
    stop_or stop None = stop
    stop_or stop (Some other) = other

never_quantum : (origin : Origin) (end : SegmentEnd) (k : ℕ) → IsLast origin end → k < end.count → stop_in origin k ≡ Some stopped.Quantum → ⊥
never_quantum origin end k last within is =
    let segment = last.end_of.segment_is in
    elim (cases_order k segment.steps) [
      | inl same ↦
          let stops : Some end.stop ≡ Some stopped.Quantum = sym segment.stops ∙ ap (stop_in origin) (sym same) ∙ is in
          let quantum : end.stop ≡ stopped.Quantum = ap (stop_or end.stop) stops in
          let count : end.count ≡ segment.steps = segment.count_is ∙ ap (λ (stop : Stop). counted stop segment.steps) quantum in
          absurd (omega (arith, count, same, within))
      | inr (inl below) ↦ let none = segment.running k below in cc
      | inr (inr above) ↦
          let most : end.count ≤ segment.steps + 1 = rw segment.count_is (counted_by end.stop segment.steps) in
          absurd (omega (arith, most, above, within))
    ]
  where
    stop_or : Stop → Option Stop → Stop
    stop_or stop None = stop
    stop_or stop (Some other) = other

runs_before : (origin : Origin) (end : SegmentEnd) (k : ℕ) → IsLast origin end → k < end.count → (j : ℕ) → j < k → stop_in origin j ≡ None
runs_before origin end k last within j below =
    let segment = last.end_of.segment_is in
    let most : end.count ≤ segment.steps + 1 = rw segment.count_is (counted_by end.stop segment.steps) in
    segment.running j (omega (arith, most, below, within))

underway_runs : (underway : PresentSegment) (origin : Origin) (k : ℕ) → IsUnderway underway → origin_of underway ≡ origin → k < underway.done → stop_in origin k ≡ None
underway_runs underway origin k is same within = ap (λ (origin : Origin). stop_in origin k) (sym same) ∙ is.stands.runs.running k within

underway_never : (underway : PresentSegment) (k : ℕ) (trap : Trap) → IsUnderway underway → k < underway.done → stop_in (origin_of underway) k ≡ Some (stopped.Trap trap) → ⊥
underway_never underway k trap is within stops = let none = is.stands.runs.running k within in cc

-- it halts for the address, or else for what comes next
halts_first : (address call event rest : Option Halt) (halt : Halt) → first_of address event ≡ Some halt → (event ≡ Some halt → call ≡ None)
    → first_of address (first_of call (first_of event rest)) ≡ Some halt
halts_first None call event rest halt is none = rw (none is, is) refl
halts_first (Some address) call event rest halt is none = is

halting : (wanted : Wanted) (old : Present) (underway new : PresentSegment) (halt : Halt) → origin_at (point_at old) ≡ Some (origin_of new) → IsUnderway new → HaltsSo wanted halt new
    → first_of (address_at wanted (own_at (moment_of (record old { underway = Some new })))) (step_halt wanted (moment_of (record old { underway = Some new }))) ≡ Some halt
halting wanted old underway new halt needs is so =
    let own : own_at (record { point = point_at old; steps = new.done }) ≡ Some (record { thread = new.work.thread; hart = new.hart; memory = views.cells_of new.view }) =
    own_in (point_at old) (origin_of new) new.done needs ∙ ap (executing (origin_of new)) is.stands.runs.reached in
    let end = end_in (point_at old) (origin_of new) new.done needs in
    rw (own, end) (by so)
  where
    address : Option Halt
    address = address_halt wanted new.work.thread new.hart.pc

    event : Option Halt
    event = access_event wanted.watches (next_access new.hart (views.cells_of new.view))

    call : Option Halt
    call = call_at wanted.watches (record { point = point_at old; steps = new.done })

    rest : Option Halt
    rest = first_of (end_by_stop (stop_in (origin_of new) new.done)) None

    none_next : is_at_call new ≡ false → call ≡ None
    none_next none =
        call_quiet wanted.watches (point_at old) (origin_of new) new.done needs
        (λ hart memory there.
        at_state (origin_of new) new.done (λ hart memory. calls_next new.work.segment.left new.done hart memory ≡ false) new.hart hart (views.cells_of new.view) memory
        is.stands.runs.reached there none)

    by : HaltsSo wanted halt new → first_of address (first_of call (first_of event rest)) ≡ Some halt
    by (inl told) =
        halts_first address call event rest halt told
        (λ some. none_next (event_no_call wanted.watches new.work.segment.left new.done new.hart (views.cells_of new.view) halt some))
    by (inr (none, at_end, (trap, trapped))) =
        let both = first_none address event none in
        let stops : stop_in (origin_of new) new.done ≡ Some (stopped.Trap trap) = subst (λ (found : Option Trap). IsItsTrap (origin_of new) new.done found) trapped is.stands.is_trap in
        let calls = none_next (no_call (origin_of new) new.done new.hart (views.cells_of new.view) is.stands.runs.reached (λ quantum. cc) (λ ecall. cc)) in
        rw (both.0, calls, both.1, stops, at_end) refl

passed_by : (wanted : Wanted) (old : Present) (underway new : PresentSegment) (most : ℕ) (progress : SegmentOutcome) → old.underway ≡ Some underway → IsTurns (point_at old) (Some underway)
    → call_at wanted.watches (moment_of old) ≡ None → IsFurther underway most progress new → StillBy wanted underway progress new → IsPassed wanted old progress (record old { underway = Some new })
passed_by wanted old underway new most Stays is turns call further still =
    let steps : steps_of old.underway ≡ underway.done = ap steps_of is in
    let first : call_at wanted.watches (record { point = point_at old; steps = underway.done }) ≡ None = rw (sym steps) call in
    λ k low high.
    plain wanted (point_at old) (origin_of underway) k turns.1 (λ hart memory there. still.instructions k hart memory (rw steps at low) high there)
    (call_passed wanted (point_at old) (origin_of underway) underway.done new.done k still turns.1 (rw steps at low) high first)
    (λ trap stops. underway_never new k trap further.0 high (ap (λ (origin : Origin). stop_in origin k) further.1 ∙ stops))
    (λ j below. underway_runs new (origin_of underway) j further.0 further.1 (omega (arith, below, high)))
    (λ quantum. let none = underway_runs new (origin_of underway) k further.0 further.1 high in cc)
passed_by wanted old underway new most (Halts halt) is turns call further still =
    let steps : steps_of old.underway ≡ underway.done = ap steps_of is in
    let first : call_at wanted.watches (record { point = point_at old; steps = underway.done }) ≡ None = rw (sym steps) call in (
      (λ k low high.
          plain wanted (point_at old) (origin_of underway) k turns.1 (λ hart memory there. still.0.instructions k hart memory (rw steps at low) high there)
          (call_passed wanted (point_at old) (origin_of underway) underway.done new.done k still.0 turns.1 (rw steps at low) high first)
          (λ trap stops. underway_never new k trap further.0 high (ap (λ (origin : Origin). stop_in origin k) further.1 ∙ stops))
          (λ j below. underway_runs new (origin_of underway) j further.0 further.1 (omega (arith, below, high)))
          (λ quantum. let none = underway_runs new (origin_of underway) k further.0 further.1 high in cc)),
      halting wanted old underway new halt (turns.1 ∙ ap Some (sym further.1)) further.0 still.1,
    )
passed_by wanted old underway new most (Over None) is turns call further still = let some = further.1 in cc
passed_by wanted old underway new most (Over (Some end)) is turns call further still =
    let steps : steps_of old.underway ≡ underway.done = ap steps_of is in
    let first : call_at wanted.watches (record { point = point_at old; steps = underway.done }) ≡ None = rw (sym steps) call in
    λ k low high.
    plain wanted (point_at old) (origin_of underway) k turns.1 (λ hart memory there. still.instructions k hart memory (rw steps at low) high there)
    (call_passed wanted (point_at old) (origin_of underway) underway.done end.count k still turns.1 (rw steps at low) high first)
    (λ trap stops. never_traps (origin_of underway) end k trap further.0.0 high stops) (runs_before (origin_of underway) end k further.0.0 high)
    (never_quantum (origin_of underway) end k further.0.0 high)

pub passed : {E : Type 0} (wanted : Wanted) (old : Present) (underway new : PresentSegment) (most : ℕ) (result : Result SegmentOutcome E) → old.underway ≡ Some underway → IsTurns (point_at old) (Some underway)
    → call_at wanted.watches (moment_of old) ≡ None → IfOk result (λ progress. IsFurther underway most progress new) → IfOk result (λ progress. StillBy wanted underway progress new)
    → IfOk result (λ progress. IsPassed wanted old progress (record old { underway = Some new }))
passed wanted old underway new most (Err error) is turns call further still = further
passed wanted old underway new most (Ok progress) is turns call further still = passed_by wanted old underway new most progress is turns call further still

pub all_looked : {E : Type 0} (wanted : Wanted) (old new : PresentSegment) (result : Result SegmentOutcome E) → IfOk result (λ progress. IsLooked wanted old progress new)
    → IfOk result (λ progress. StillBy wanted old progress new)
all_looked wanted old new (Err error) is = is
all_looked wanted old new (Ok progress) is = looked_still wanted old new progress is

-- where nothing is asked for, it halts at no instruction

empty : {A : Type 0} (items : List A) → not (length items == 0) ≡ false → items ≡ []
empty items is = nil_from_length items (grind (arith, nat_tests))

unasked : (wanted : Wanted) (thread : ℕ) → asks wanted thread ≡ false → (hart : HartState) (memory : Memory) → instruction_halt wanted thread hart memory ≡ None
unfolding address_halt
unasked wanted thread is = λ hart memory.
    let some_breakpoints : Bool = not (length wanted.breakpoints == 0) in
    let some_watches : Bool = not (length wanted.watches == 0) in
    let before = first_false (waits wanted.arrival thread || some_breakpoints) some_watches is in
    let waiting = first_false (waits wanted.arrival thread) some_breakpoints before in
    let breakpoints = empty wanted.breakpoints (other_false (waits wanted.arrival thread) some_breakpoints before) in
    let watches = empty wanted.watches (other_false (waits wanted.arrival thread || some_breakpoints) some_watches is) in
    let elsewhere = not_waited wanted.arrival thread hart.pc waiting in
    rw (breakpoints, watches, elsewhere) (sym (no_event (next_access hart memory)))

unasked_watches : (wanted : Wanted) (thread : ℕ) → asks wanted thread ≡ false → wanted.watches ≡ []
unasked_watches wanted thread is =
    let some_breakpoints : Bool = not (length wanted.breakpoints == 0) in
    let some_watches : Bool = not (length wanted.watches == 0) in
    empty wanted.watches (other_false (waits wanted.arrival thread || some_breakpoints) some_watches is)

unasked_quiet : (wanted : Wanted) (origin : Origin) (from to : ℕ) → asks wanted origin.work.thread ≡ false → IsQuiet wanted origin from to
unasked_quiet wanted origin from to none =
    record {
      instructions = λ k hart memory low high there. unasked wanted origin.work.thread none hart memory;
      calls = λ k hart memory low high there watched. absurd (watched (unasked_watches wanted origin.work.thread none));
    }

unasked_by : (wanted : Wanted) (old new : PresentSegment) (most : ℕ) (progress : SegmentOutcome) → asks wanted old.work.thread ≡ false → IsProgress old most progress new → StillBy wanted old progress new
unasked_by wanted old new most Stays none is = unasked_quiet wanted (origin_of old) old.done new.done none
unasked_by wanted old new most (Halts halt) none is =
    let thread : new.work.thread ≡ old.work.thread = ap (λ (origin : Origin). origin.work.thread) is.2 in (
      unasked_quiet wanted (origin_of old) old.done new.done none,
      inr (rw thread (unasked wanted old.work.thread none new.hart (views.cells_of new.view)), is.0, is.4),
    )
unasked_by wanted old new most (Over None) none is = tt
unasked_by wanted old new most (Over (Some end)) none is = unasked_quiet wanted (origin_of old) old.done end.count none

pub all_unasked : {E : Type 0} (wanted : Wanted) (old new : PresentSegment) (most : ℕ) (result : Result SegmentOutcome E) → asks wanted old.work.thread ≡ false
    → IfOk result (λ progress. IsProgress old most progress new) → IfOk result (λ progress. StillBy wanted old progress new)
all_unasked wanted old new most (Err error) none is = is
all_unasked wanted old new most (Ok progress) none is = unasked_by wanted old new most progress none is

-- at a trap that is known it halts for the instruction, or at the end
pub at_trap : (wanted : Wanted) (old : Present) (underway : PresentSegment) (told : Option Halt) (trap : Trap) → old.underway ≡ Some underway → IsTurns (point_at old) (Some underway)
    → told ≡ halt_in wanted underway → underway.trap ≡ Some trap
    → IsPassed wanted old (Halts (told_or_end told)) (record old { underway = Some underway })
at_trap wanted old underway told trap is turns here trapped =
    let steps : steps_of old.underway ≡ underway.done = ap steps_of is in
    ((λ k low high. absurd (omega (arith, low, high, steps))), halting wanted old underway underway (told_or_end told) turns.1 turns.0 (by told here))
  where
    by : (told : Option Halt) → told ≡ halt_in wanted underway → HaltsSo wanted (told_or_end told) underway
    by None here = inr (sym here, refl, (trap, trapped))
    by (Some halt) here = inl (sym here)

-- a turn without a segment

without : (wanted : Wanted) (point : Point) (steps : ℕ) → origin_at point ≡ None → (own_at (record { point = point; steps = steps }) ≡ None) × (end_at (record { point = point; steps = steps }) ≡ end_by_need (need_at point))
unfolding own_at end_at
without wanted point steps none = (
  ap (λ (origin : Option Origin). own_by origin steps) none,
  ap (λ (found : Option Origin). first_of (end_by_stop (option_and_then (λ origin. stop_in origin steps) found)) (end_by_need (need_at point))) none,
)

pub at_end : (wanted : Wanted) (old : Present) (outcome : RunOutcome) → origin_at (point_at old) ≡ None → need_at (point_at old) ≡ need.Ended outcome → IsPassed wanted old (Halts End) old
at_end wanted old outcome none ended =
    let here = without wanted (point_at old) (steps_of old.underway) none in (
      (λ k low high. absurd (omega (arith, low, high))),
      ap (λ (own : Option Executing). first_of (address_at wanted own) (first_of (call_at wanted.watches (moment_of old)) (first_of (event_at wanted.watches own) (end_at (moment_of old))))) here.0
          ∙ ap (λ (call : Option Halt). first_of call (end_at (moment_of old))) (call_without wanted.watches (point_at old) (steps_of old.underway) none) ∙ here.1 ∙ ap end_by_need ended,
    )

pub at_wake : (wanted : Wanted) (old : Present) → origin_at (point_at old) ≡ None → ((outcome : RunOutcome) → need_at (point_at old) ≡ need.Ended outcome → ⊥) → IsPassed wanted old (Over None) old
at_wake wanted old none goes_on = λ k low high.
    let here = without wanted (point_at old) k none in
    let first : k ≡ 0 = omega (arith, high) in
    record {
      within = λ start before begins. rw first (let same : before + 0 ≡ before = omega arith in ap (moment_at start) same ∙ begins);
      address = ap (address_at wanted) here.0;
      call = call_without wanted.watches (point_at old) k none;
      event = ap (event_at wanted.watches) here.0;
      end = here.1 ∙ by (need_at (point_at old)) goes_on;
    }
  where
    by : (asked : Need) → ((outcome : RunOutcome) → asked ≡ need.Ended outcome → ⊥) → end_by_need asked ≡ None
    by (need.Segment work) never = refl
    by (need.Keeper work) never = refl
    by (need.Wake thread) never = refl
    by (need.Ended outcome) never = absurd (never outcome refl)

pub trap_of : (found : Option Trap) → is_some found ≡ true → (trap : Trap) × (found ≡ Some trap)
trap_of None is = absurd (cc)
trap_of (Some trap) is = (trap, refl)

-- nothing is told of a turn's instructions where none is looked at
pub silent_turn : (wanted : Wanted) (point : Point) (underway : Option PresentSegment) (steps : ℕ) → IsTurns point underway → IsBegun point underway → looks wanted underway ≡ false
    → (address_at wanted (own_at (record { point = point; steps = steps })) ≡ None) × (event_at wanted.watches (own_at (record { point = point; steps = steps })) ≡ None)
silent_turn wanted point None steps turns begun is =
    let here = without wanted point steps begun in
    (ap (address_at wanted) here.0, ap (event_at wanted.watches) here.0)
silent_turn wanted point (Some underway) steps turns begun is =
    let own = own_in point (origin_of underway) steps turns.1 in
    let none = instruction_none wanted (origin_of underway) (state_in (origin_of underway) steps) (λ hart memory there. unasked wanted underway.work.thread is hart memory) in
    (ap (address_at wanted) own ∙ none.0, ap (event_at wanted.watches) own ∙ none.1)

pub silent_call : (wanted : Wanted) (point : Point) (underway : Option PresentSegment) (steps : ℕ) → IsBegun point underway → looks wanted underway ≡ false
    → call_at wanted.watches (record { point = point; steps = steps }) ≡ None
silent_call wanted point None steps begun is = call_without wanted.watches point steps begun
silent_call wanted point (Some underway) steps begun is = rw (unasked_watches wanted underway.work.thread is) (call_nothing (record { point = point; steps = steps }))

-- the positions of a turn that are skipped
pub skipped_plain : (wanted : Wanted) (old : Present) (underway new : PresentSegment) (until : ℕ) → old.underway ≡ Some underway → IsTurns (point_at old) (Some underway) → IsSkippedStill wanted underway until new
    → ArePlain wanted (point_at old) (steps_of old.underway) new.done
skipped_plain wanted old underway new until is turns passed =
    let still = passed.still in
    let skipped = passed.skipped in
    let steps : steps_of old.underway ≡ underway.done = ap steps_of is in
    λ k low high.
    plain wanted (point_at old) (origin_of underway) k turns.1 (λ hart memory there. still.instructions k hart memory (rw steps at low) high there)
    (call_quiet wanted.watches (point_at old) (origin_of underway) k turns.1 (λ hart memory there. still.calls k hart memory (rw steps at low) high there))
    (λ trap stops. underway_never new k trap skipped.underway high (ap (λ (origin : Origin). stop_in origin k) skipped.same ∙ stops))
    (λ j below. underway_runs new (origin_of underway) j skipped.underway skipped.same (omega (arith, below, high)))
    (λ quantum. let none = underway_runs new (origin_of underway) k skipped.underway skipped.same high in cc)

own_of : (present : Present) (underway : PresentSegment) → present.underway ≡ Some underway → IsTurns (point_at present) (Some underway)
    → own_at (moment_of present) ≡ Some (record { thread = underway.work.thread; hart = underway.hart; memory = views.cells_of underway.view })
own_of present underway is turns =
    let steps : steps_of present.underway ≡ underway.done = ap steps_of is in
    rw steps (own_in (point_at present) (origin_of underway) underway.done turns.1 ∙ ap (executing (origin_of underway)) turns.0.stands.runs.reached)

-- the watch event of a call that comes next
pub at_call : (watches : List Watch) (present : Present) (underway : PresentSegment) → present.underway ≡ Some underway → IsTurns (point_at present) (Some underway)
    → is_at_call underway ≡ true
    → call_at watches (moment_of present)
    ≡ call_event watches (read_by watches (call_of underway.hart) (count_read (moment_of present) underway.work.thread)) (joint_in present underway)
unfolding call_at
at_call watches present underway is turns calls =
    let steps : steps_of present.underway ≡ underway.done = ap steps_of is in
    let own = own_of present underway is turns in
    let here : calls_next underway.work.segment.left (steps_of present.underway) underway.hart (views.cells_of underway.view) ≡ true = rw steps calls in
    ap (λ (origin : Option Origin). call_by watches (moment_of present) origin (own_at (moment_of present))) turns.1
    ∙ ap (call_by watches (moment_of present) (Some (origin_of underway))) own ∙ rw here refl

-- none if no call comes next
pub not_at_call : (watches : List Watch) (present : Present) (underway : PresentSegment) → present.underway ≡ Some underway → IsTurns (point_at present) (Some underway)
    → is_at_call underway ≡ false → call_at watches (moment_of present) ≡ None
not_at_call watches present underway is turns none =
    let steps : steps_of present.underway ≡ underway.done = ap steps_of is in
    rw steps
    (call_quiet watches (point_at present) (origin_of underway) underway.done turns.1
    (λ hart memory there.
    at_state (origin_of underway) underway.done (λ hart memory. calls_next underway.work.segment.left underway.done hart memory ≡ false) underway.hart hart (views.cells_of underway.view) memory
    turns.0.stands.runs.reached there none))
