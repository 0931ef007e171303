-- How a segment that has begun goes on.
use Rattle.std.proofs.Common.{◌≡◌, ◌∙◌, ℕ, ◌<◌, ◌≤◌, Bool, true, false, Option, Some, None, IfSome, refl, sym, ap, subst, arith, inl, inr, Result, Ok, Err}
use Rattle.std.specs.Prelude.{◌==◌, if◌then◌else◌}
use Rattle.std.proofs.lemmas.Bool.{cases_order}
use Rattle.std.proofs.lemmas.Bool.Decides.{nat_tests}
use Rattle.std.specs.Result.{IfOk}
use Rattle.guest_memory.specs.Memory.{Memory}
use Rattle.hart.specs.HartState.{HartState}
use Rattle.hart.specs.Next.{Next, Goes, Calls, Traps, next}
use Rattle.hart.specs.Segment.{Segment, after, bound_trap, is_used_up, stop_after, stop_at, stop_of}
use Rattle.hart.specs.Slice.{Runs}
use Rattle.hart.proofs.Segments.{stop_here}
use Rattle.hart.specs.declared.stop.Stop.{Stop}
use Rattle.hart.specs.declared.stop.Stop.TheVariants.{Trap, Ecall, Quantum}
use Rattle.hart.specs.declared.trap.Trap.{Trap as TrapOf}
use Rattle.paged_memory.specs.Snapshot as snapshots
use Rattle.twins.specs.View as views
use Rattle.segment.specs.declared.segment_end.SegmentEnd.{SegmentEnd}
use Rattle.segment.specs.Ends.{IsEndOf}
use Rattle.timeline.specs.Moment.{Origin}
use Rattle.token.specs.Turns.{Ran}
use Rattle.token.proofs.SegmentEnds.{one_end}
use Rattle.timeline.specs.Underway.{EndsHere, IsUnderway, IsOver, IsProgress, IsStopped, IsTrapped, origin_of}
use Rattle.timeline.specs.declared.halt.Halt.TheVariants.{End}
use Rattle.timeline.specs.declared.present_segment.PresentSegment.{PresentSegment}
use Rattle.timeline.specs.declared.present_segment.SegmentOutcome.{SegmentOutcome}
use Rattle.timeline.specs.declared.present_segment.SegmentOutcome.TheVariants.{Stays, Halts, Over}

-- a segment stops no earlier than it has come
pub not_before : (hart last : HartState) (memory last_memory : Memory) (left : ℕ) (quantum : Option ℕ) (done steps : ℕ) (stop : Stop)
    → Runs hart memory left quantum done last last_memory → stop_after hart memory left quantum steps ≡ Some stop → done ≤ steps
not_before hart last memory last_memory left quantum done steps stop runs stops =
    le_unless done steps (λ below. let none = runs.running steps below in cc)
  where
    le_unless : (m n : ℕ) → (n < m → ⊥) → m ≤ n
    le_unless m n never =
        elim (cases_order m n) [
          | inl same ↦ omega arith
          | inr (inl below) ↦ omega arith
          | inr (inr above) ↦ absurd (never above)
        ]

used_up : (quantum : Option ℕ) (steps : ℕ) → is_used_up quantum steps ≡ true → quantum ≡ Some steps
used_up None steps is = cc
used_up (Some q) steps is = let same : steps ≡ q = grind (arith, nat_tests) in ap Some (sym same)

by_quantum : (at_bound used : Bool) (what : Next) → (if at_bound then Some (Trap bound_trap) else (if used then Some Quantum else stop_of what)) ≡ Some Quantum → used ≡ true
by_quantum true used what is = cc
by_quantum false true what is = refl
by_quantum false false (Goes hart memory) is = cc
by_quantum false false Calls is = cc
by_quantum false false (Traps trap) is = cc

-- where a segment stops by its quantum it has executed as many instructions
pub quantum_at : (hart last : HartState) (memory last_memory : Memory) (left : ℕ) (quantum : Option ℕ) (steps : ℕ)
    → after steps hart memory ≡ Some (last, last_memory) → stop_after hart memory left quantum steps ≡ Some Quantum → quantum ≡ Some steps
unfolding stop_at
quantum_at hart last memory last_memory left quantum steps reached stops =
    used_up quantum steps (by_quantum (steps == left) (is_used_up quantum steps) (next last last_memory) (sym (stop_here hart memory left quantum steps last last_memory reached) ∙ stops))

-- a segment that ends by an ecall or the quantum has executed more than it had
pub later : (hart last end_hart : HartState) (memory last_memory end_memory : Memory) (left : ℕ) (quantum : Option ℕ) (done count : ℕ) (stop : Stop)
    → Runs hart memory left quantum done last last_memory → IfSome quantum (λ q. done < q)
    → ((trap : TrapOf) → stop ≡ Trap trap → ⊥)
    → Segment hart memory left quantum stop count end_hart end_memory → done < count
later hart last end_hart memory last_memory end_memory left quantum done count (Trap trap) runs below other segment = absurd (other trap refl)
later hart last end_hart memory last_memory end_memory left quantum done count Ecall runs below other segment =
    let first = not_before hart last memory last_memory left quantum done segment.steps Ecall runs segment.stops in
    let is = segment.count_is in
    omega arith
later hart last end_hart memory last_memory end_memory left quantum done count Quantum runs below other segment =
    let used = quantum_at hart end_hart memory end_memory left quantum segment.steps segment.reached segment.stops in
    let inside : done < segment.steps = rw used at below in
    let is = segment.count_is in
    omega arith

-- a segment that ends by a trap has executed no less than it had
pub no_earlier : (hart last end_hart : HartState) (memory last_memory end_memory : Memory) (left : ℕ) (quantum : Option ℕ) (done count : ℕ) (trap : TrapOf)
    → Runs hart memory left quantum done last last_memory → Segment hart memory left quantum (Trap trap) count end_hart end_memory → done ≤ count
no_earlier hart last end_hart memory last_memory end_memory left quantum done count trap runs segment =
    let first = not_before hart last memory last_memory left quantum done segment.steps (Trap trap) runs segment.stops in
    let is = segment.count_is in
    omega arith

-- a segment that stands at a trap
at_trap : (mid : PresentSegment) (count : ℕ) (trap : TrapOf) → snapshots.cells_of mid.under ≡ snapshots.cells_of (views.base_of mid.view) → EndsHere mid (Trap trap) count → IsUnderway (record mid { done = count; trap = Some trap })
at_trap mid count trap under ends =
    let segment = ends.0 in
    record {
      stands = record {
        runs = rw segment.count_is (record { reached = segment.reached; running = segment.running });
        within = λ none. cc;
        quantum = λ none. cc;
        is_trap = rw segment.count_is segment.stops;
      };
      under = under;
      whole = ends.1;
    }

-- the segment stands at a trap that was found
trapped : (old mid new : PresentSegment) (until count : ℕ) (trap : TrapOf) (result : SegmentOutcome)
    → IsUnderway old → mid.done ≡ old.done → origin_of mid ≡ origin_of old → snapshots.cells_of mid.under ≡ snapshots.cells_of (views.base_of mid.view)
    → EndsHere mid (Trap trap) count → old.done ≤ count → count ≤ until → IsTrapped mid trap count result new → IsProgress old until result new
trapped old mid new until count trap Stays underway same_done same_origin under ends no_less within is =
    let above = is.0 in
    let further : old.done < count = omega arith in
    subst (λ (new : PresentSegment). IsUnderway new × (origin_of new ≡ origin_of old) × (old.done < new.done) × (new.done ≤ until)) (sym is.1)
    (at_trap mid count trap under ends, same_origin, further, within)
trapped old mid new until count trap (Halts halt) underway same_done same_origin under ends no_less within is =
    let above = is.0 in
    let same : count ≡ old.done = omega arith in
    let stands : (halt ≡ End) × IsUnderway (record mid { done = count; trap = Some trap }) × (origin_of (record mid { done = count; trap = Some trap }) ≡ origin_of old) × (count ≡ old.done) × ((found : TrapOf) × (Some trap ≡ Some found)) =
    (is.1, at_trap mid count trap under ends, same_origin, same, (trap, refl)) in
    subst (λ (new : PresentSegment). (halt ≡ End) × IsUnderway new × (origin_of new ≡ origin_of old) × (new.done ≡ old.done) × ((found : TrapOf) × (new.trap ≡ Some found))) (sym is.2) stands
trapped old mid new until count trap (Over end) underway same_done same_origin under ends no_less within is = absurd is

-- the end of a segment that is over
over : (old new : PresentSegment) (origin : Origin) (until count : ℕ) (stop : Stop) (result : SegmentOutcome)
    → origin ≡ origin_of old → ((trap : TrapOf) → stop ≡ Trap trap → ⊥) → old.done < count → count ≤ until → IsOver origin stop count result → IsProgress old until result new
over old new origin until count stop Stays same other further within is = absurd is
over old new origin until count stop (Halts halt) same other further within is = absurd is
over old new origin until count stop (Over None) same other further within is = let some = is.1 in cc
over old new origin until count stop (Over (Some end)) same other further within is =
    let of_it = is.0 in
    let counted = of_it.2 in (
      (
        record {
          end_of = subst (λ (origin : Origin). IsEndOf origin.copy origin.work.segment end) same of_it.0;
          no_trap = λ trap traps. other trap (sym of_it.1 ∙ traps);
        },
        (omega arith),
        (omega arith),
      ),
      refl,
    )

-- a segment that stopped is at a trap or over
pub stopped_is : {E : Type 0} (old mid new : PresentSegment) (until count : ℕ) (stop : Stop) (result : Result SegmentOutcome E)
    → IsUnderway old → old.trap ≡ None → mid.done ≡ old.done → origin_of mid ≡ origin_of old → snapshots.cells_of mid.under ≡ snapshots.cells_of (views.base_of mid.view)
    → EndsHere mid stop count → count ≤ until → IfOk result (λ progress. IsStopped mid stop count progress new) → IfOk result (λ progress. IsProgress old until progress new)
stopped_is old mid new until count stop (Err error) underway goes same_done same_origin under ends within is = is
stopped_is old mid new until count stop (Ok progress) underway goes same_done same_origin under ends within is = by_stop stop ends is
  where
    segment_of : (stop : Stop) → EndsHere mid stop count → Segment old.work.segment.hart (origin_of old).copy old.work.segment.left old.work.segment.quantum stop count mid.hart (views.cells_of mid.view)
    segment_of stop ends =
        subst (λ (origin : Origin). Segment origin.work.segment.hart origin.copy origin.work.segment.left origin.work.segment.quantum stop count mid.hart (views.cells_of mid.view)) same_origin ends.0

    by_stop : (stop : Stop) → EndsHere mid stop count → IsStopped mid stop count progress new → IsProgress old until progress new
    by_stop (Trap trap) ends is =
        trapped old mid new until count trap progress underway same_done same_origin under ends
        (no_earlier _ _ _ _ _ _ _ _ _ _ _ underway.stands.runs (segment_of (Trap trap) ends)) within is
    by_stop Ecall ends is =
        let other : (trap : TrapOf) → Ecall ≡ Trap trap → ⊥ = λ trap traps. cc in
        over old new (origin_of mid) until count Ecall progress same_origin other
        (later _ _ _ _ _ _ _ _ _ _ _ underway.stands.runs (underway.stands.quantum goes) other (segment_of Ecall ends)) within is
    by_stop Quantum ends is =
        let other : (trap : TrapOf) → Quantum ≡ Trap trap → ⊥ = λ trap traps. cc in
        over old new (origin_of mid) until count Quantum progress same_origin other
        (later _ _ _ _ _ _ _ _ _ _ _ underway.stands.runs (underway.stands.quantum goes) other (segment_of Quantum ends)) within is

-- the end of a segment that was executed again is the end that it had
pub again : (origin : Origin) (stop : Stop) (count : ℕ) (hart : HartState) (memory : Memory) (end : SegmentEnd)
    → Segment origin.work.segment.hart origin.copy origin.work.segment.left origin.work.segment.quantum stop count hart memory → IsEndOf origin.copy origin.work.segment end → (end.stop ≡ stop) × (end.count ≡ count)
again origin stop count hart memory end segment of_it =
    let one : Ran = record { hart = end.hart; memory = of_it.memory; stop = end.stop; count = end.count } in
    let other : Ran = record { hart = hart; memory = memory; stop = stop; count = count } in
    let same = one_end origin.work.segment.hart origin.copy origin.work.segment.left origin.work.segment.quantum one other of_it.segment_is segment in
    (ap (λ (ran : Ran). ran.stop) same, ap (λ (ran : Ran). ran.count) same)
