-- What becomes of a run at a position.
use Rattle.std.proofs.Common.{◌≡◌, ◌∙◌, ℕ, ◌+◌, ◌<◌, Option, Some, None, refl, sym, ap, arith, Result, Ok, Err}
use Rattle.std.specs.Result.{IfOk}
use Rattle.token.specs.Point.{Point, moved, step_at}
use Rattle.token.specs.declared.outcome.RunOutcome.{RunOutcome}
use Rattle.token.specs.declared.need.Need.TheVariants as need
use Rattle.token.specs.Point.{need_at}
use Rattle.segment.specs.declared.segment_end.SegmentEnd.{SegmentEnd}
use Rattle.guest_memory.specs.Memory.{Memory}
use Rattle.hart.specs.HartState.{HartState}
use Rattle.hart.specs.declared.stop.Stop.TheVariants.{Quantum}
use Rattle.hart.specs.declared.trap.Trap.{Trap as TrapOf}
use Rattle.timeline.specs.Moment.{Origin, beginning, moment_at, stop_in, origin_at}
use Rattle.timeline.specs.Present.{BeginsAt, IsTurnEnd, IsTurns, IsWent, SameTurn, count_of, moment_of, point_at, step_of, steps_of}
use Rattle.timeline.specs.Underway.{IsFurther, IsProgress, Stands, origin_of}
use Rattle.timeline.specs.declared.present.Present.{Present}
use Rattle.timeline.specs.declared.present_segment.PresentSegment.{PresentSegment}
use Rattle.timeline.specs.declared.present_segment.SegmentOutcome.{SegmentOutcome}
use Rattle.timeline.specs.declared.present_segment.SegmentOutcome.TheVariants.{Stays, Halts, Over}
use Rattle.timeline.proofs.Positions.{after_turn, after_wake, end_needed, wake_needed, within_turn}
use Rattle.timeline.proofs.Advancing.{quantum_at}

-- what a segment comes to is what the present turn comes to
went_by : (old : Present) (underway new : PresentSegment) (most : ℕ) (progress : SegmentOutcome) → old.underway ≡ Some underway → IsTurns (point_at old) (Some underway)
    → IsFurther underway most progress new → IsWent old most progress (record old { underway = Some new })
went_by old underway new most Stays is turns further =
    let steps : steps_of old.underway ≡ underway.done = ap steps_of is in
    let more = further.2 in
    ((further.0, turns.1 ∙ ap Some (sym further.1)), (omega arith), further.3)
went_by old underway new most (Halts halt) is turns further =
    let steps : steps_of old.underway ≡ underway.done = ap steps_of is in
    let more = further.2 in
    ((further.0, turns.1 ∙ ap Some (sym further.1)), (omega arith), further.3)
went_by old underway new most (Over None) is turns further = let some = further.1 in cc
went_by old underway new most (Over (Some end)) is turns further =
    let steps : steps_of old.underway ≡ underway.done = ap steps_of is in
    let last = further.0.0 in
    let above : underway.done < end.count = further.0.1 in
    record {
      needed = end_needed (point_at old) (origin_of underway) end turns.1 last.end_of;
      later = omega arith;
      within = further.0.2;
      leads = λ start begins. after_turn start (point_at old) (origin_of underway) old.before end begins turns.1 last (omega arith);
    }

pub went : {E : Type 0} (old : Present) (underway new : PresentSegment) (most : ℕ) (result : Result SegmentOutcome E) → old.underway ≡ Some underway → IsTurns (point_at old) (Some underway)
    → IfOk result (λ progress. IsFurther underway most progress new) → IfOk result (λ progress. IsWent old most progress (record old { underway = Some new }))
went old underway new most (Err error) is turns further = further
went old underway new most (Ok progress) is turns further = went_by old underway new most progress is turns further

further_by : (old new : PresentSegment) (most : ℕ) (progress : SegmentOutcome) → old.done < most → IsProgress old most progress new → IsFurther old most progress new
further_by old new most Stays below is = is
further_by old new most (Halts halt) below is =
    let same : new.done ≡ old.done = is.3 in
    (is.1, is.2, (omega arith), (omega arith))
further_by old new most (Over end) below is = is

pub further : {E : Type 0} (old new : PresentSegment) (most : ℕ) (result : Result SegmentOutcome E) → old.done < most → IfOk result (λ progress. IsProgress old most progress new)
    → IfOk result (λ progress. IsFurther old most progress new)
further old new most (Err error) below is = is
further old new most (Ok progress) below is = further_by old new most progress below is

-- a wake is the end of its turn
pub wakes : (present : Present) (most : ℕ) → present.underway ≡ None → origin_at (point_at present) ≡ None → steps_of present.underway < most
    → ((outcome : RunOutcome) → need_at (point_at present) ≡ need.Ended outcome → ⊥) → IsTurnEnd present most None
wakes present most is none below goes_on =
    let steps : steps_of present.underway ≡ 0 = ap steps_of is in
    let needed = wake_needed (point_at present) none goes_on in
    record {
      needed = needed;
      later = omega arith;
      within = omega arith;
      leads = λ start begins. after_wake start (point_at present) present.before begins needed;
    }

pub same_point : (one other : Present) → one.serial ≡ other.serial → point_at one ≡ point_at other
same_point one other same = cc

-- the next turn begins where the one before ends
pub turned_begins : (start : Point) (old went new : Present) (most : ℕ) (end given : Option SegmentEnd) → SameTurn old went → given ≡ end
    → IsTurnEnd old most end → point_at new ≡ moved (point_at went) (step_at (point_at went) given) → new.before ≡ went.before + count_of given
    → BeginsAt start old → BeginsAt start new
turned_begins start old went new most end given same same_end is point before begins =
    let point_is : point_at went ≡ point_at old = same_point went old same.serial in
    let leads = is.leads start begins in
    let here : new.before ≡ old.before + count_of end = before ∙ ap (λ (e : Option SegmentEnd). went.before + count_of e) same_end ∙ ap (λ (b : ℕ). b + count_of end) same.before in
    let stands : point_at new ≡ moved (point_at old) (step_at (point_at old) end) =
    point ∙ ap (λ (e : Option SegmentEnd). moved (point_at went) (step_at (point_at went) e)) same_end ∙ ap (λ (p : Point). moved p (step_at p end)) point_is in
    ap (moment_at start) here ∙ leads ∙ ap (λ (p : Point). Some (beginning p)) (sym stands)

-- the same turn begins where it did
pub same_begins : (start : Point) (old new : Present) → SameTurn old new → BeginsAt start old → BeginsAt start new
same_begins start old new same begins =
    ap (moment_at start) same.before ∙ begins ∙ ap (λ (p : Point). Some (beginning p)) (sym (same_point new old same.serial))

-- a segment that may go on, or is at a trap, isn't at its quantum
not_at_quantum : (origin : Origin) (done : ℕ) (trap : Option TrapOf) (hart : HartState) (cells : Memory) → Stands origin done trap hart cells → stop_in origin done ≡ Some Quantum → ⊥
not_at_quantum origin done (Some trap) hart cells stands is = let other = stands.is_trap in cc
not_at_quantum origin done None hart cells stands is =
    let used = quantum_at origin.work.segment.hart hart origin.copy cells origin.work.segment.left origin.work.segment.quantum done stands.runs.reached is in
    let below : done < done = rw used at (stands.quantum refl) in
    omega arith

by_underway : (start point : Point) (before : ℕ) (underway : Option PresentSegment) → IsTurns point underway → moment_at start before ≡ Some (beginning point)
    → moment_at start (before + steps_of underway) ≡ Some (record { point = point; steps = steps_of underway })
by_underway start point before None turns begins = let same : before + 0 ≡ before = omega arith in ap (moment_at start) same ∙ begins
by_underway start point before (Some underway) turns begins =
    let stands = turns.0.stands in
    within_turn start point (origin_of underway) before underway.done begins turns.1 stands.runs.running (not_at_quantum (origin_of underway) underway.done underway.trap _ _ stands)

-- the position is that of its step
pub stands_at : (start : Point) (present : Present) → IsTurns (point_at present) present.underway → BeginsAt start present → moment_at start (step_of present) ≡ Some (moment_of present)
stands_at start present turns begins = by_underway start (point_at present) present.before present.underway turns begins
