-- What is told of a position is the definitions'.
use Rattle.std.proofs.Common.{◌≡◌, ◌∙◌, ℕ, Option, Some, None, refl, sym, ap}
use Rattle.std.specs.Prelude.{option_and_then, option_map}
use Rattle.guest_memory.specs.Memory.{Memory}
use Rattle.hart.specs.HartState.{HartState}
use Rattle.token.specs.Point.{Point, due_at, need_at, need_by, need_of}
use Rattle.token.specs.declared.due.Due.{Due}
use Rattle.token.specs.declared.due.Due.TheVariants as due
use Rattle.token.specs.declared.need.Need.{Need}
use Rattle.token.specs.declared.need.Need.TheVariants as need
use Rattle.token.specs.declared.outcome.RunOutcome.{RunOutcome}
use Rattle.token.specs.declared.outcome.RunOutcome.TheVariants as outcome
use Rattle.hart.specs.declared.trap.Trap.{Trap}
use Rattle.timeline.specs.Moment.{Origin, origin_at, origin_by, stop_in}
use Rattle.timeline.specs.Present.{IsTurns, moment_of, point_at, steps_of}
use Rattle.timeline.specs.Shown.{Executing, own_at, own_by}
use Rattle.timeline.specs.Told.{IsTrapThere, end_in, outcome_at, pc_by, stage_at, stage_by, thread_at, thread_by, trap_found}
use Rattle.timeline.specs.Underway.{IsItsTrap, origin_of}
use Rattle.timeline.specs.declared.present.Present.{Present}
use Rattle.timeline.specs.declared.stage.Stage.TheVariants.{Segment, Trap as Trapped}
use Rattle.timeline.specs.declared.present_segment.PresentSegment.{PresentSegment}

-- a turn that needs a segment is its thread's

thread_needed : (point : Point) (asked : Need) (origin : Origin) (last : ℕ) → origin_by point asked ≡ Some origin → thread_by asked last ≡ origin.work.thread
thread_needed point (need.Segment work) origin last is = cc
thread_needed point (need.Keeper work) origin last is = cc
thread_needed point (need.Wake thread) origin last is = absurd (cc)
thread_needed point (need.Ended outcome) origin last is = absurd (cc)

pub thread_is : (point : Point) (underway : PresentSegment) (last : ℕ) → IsTurns point (Some underway) → underway.work.thread ≡ thread_at point last
unfolding origin_at
thread_is point underway last turns = sym (thread_needed point (need_at point) (origin_of underway) last turns.1)

-- the outcome, if a turn needs none
abbrev pub ended_in : Need → Option RunOutcome
ended_in (need.Segment work) = None
ended_in (need.Keeper work) = None
ended_in (need.Wake thread) = None
ended_in (need.Ended outcome) = Some outcome

never_ended : (point : Point) (who : Due) → ended_in (need_of point who) ≡ None
never_ended point (due.Fresh thread) = refl
never_ended point (due.Keeper thread) = refl
never_ended point (due.Woken thread mutex) = refl

ended_by : (ends : Option RunOutcome) (asked : Need) → ended_in asked ≡ None → ended_in (need_by ends asked) ≡ ends
ended_by None asked never = never
ended_by (Some ends) asked never = refl

ended_at : (point : Point) → ended_in (need_at point) ≡ point.ended
unfolding need_at
ended_at point = ended_by point.ended (need_of point (due_at point)) (never_ended point (due_at point))

stage_ended : (asked : Need) → end_in (stage_by asked) ≡ ended_in asked
stage_ended (need.Segment work) = refl
stage_ended (need.Keeper work) = refl
stage_ended (need.Wake thread) = refl
stage_ended (need.Ended outcome) = refl

needed_goes_on : (point : Point) (asked : Need) (origin : Origin) → origin_by point asked ≡ Some origin → ended_in asked ≡ None
needed_goes_on point (need.Segment work) origin is = refl
needed_goes_on point (need.Keeper work) origin is = refl
needed_goes_on point (need.Wake thread) origin is = absurd (cc)
needed_goes_on point (need.Ended outcome) origin is = absurd (cc)

goes_on : (point : Point) (origin : Origin) → origin_at point ≡ Some origin → point.ended ≡ None
unfolding origin_at
goes_on point origin is = sym (ended_at point) ∙ needed_goes_on point (need_at point) origin is

-- what the next turn needs says whether the run has ended
pub ended_as : (point : Point) (asked : Need) → asked ≡ need_at point → ended_in asked ≡ point.ended
ended_as point asked is = ap ended_in is ∙ ended_at point

-- a segment that has begun goes on
pub begun_goes_on : (point : Point) (found : Option PresentSegment) (underway : PresentSegment) → found ≡ Some underway → IsTurns point found → None ≡ point.ended
begun_goes_on point found underway is turns = let begun : IsTurns point (Some underway) = rw is at turns in sym (goes_on point (origin_of underway) begun.1)

-- the run has ended exactly if that is its stage
end_by_trap : (point : Point) (steps : ℕ) (origin : Origin) (trap : Option Trap) → origin_at point ≡ Some origin
    → end_in (stage_at (record { point = point; steps = steps }) trap) ≡ point.ended
end_by_trap point steps origin None is = stage_ended (need_at point) ∙ ended_at point
end_by_trap point steps origin (Some trap) is = sym (goes_on point origin is)

end_by : (point : Point) (steps : ℕ) (underway : Option PresentSegment) → IsTurns point underway
    → end_in (stage_at (record { point = point; steps = steps }) (trap_found underway)) ≡ point.ended
end_by point steps None turns = stage_ended (need_at point) ∙ ended_at point
end_by point steps (Some underway) turns = end_by_trap point steps (origin_of underway) underway.trap turns.1

pub end_is : (present : Present) → IsTurns (point_at present) present.underway → end_in (stage_at (moment_of present) (trap_found present.underway)) ≡ (point_at present).ended
end_is present turns = end_by (point_at present) (steps_of present.underway) present.underway turns

-- a segment that has begun is what the run is about to execute
stage_needed : (point : Point) (asked : Need) (origin : Origin) → origin_by point asked ≡ Some origin → stage_by asked ≡ Segment
stage_needed point (need.Segment work) origin is = refl
stage_needed point (need.Keeper work) origin is = refl
stage_needed point (need.Wake thread) origin is = absurd (cc)
stage_needed point (need.Ended outcome) origin is = absurd (cc)

pub segment_is : (point : Point) (underway : PresentSegment) → IsTurns point (Some underway) → stage_by (need_at point) ≡ Segment
unfolding origin_at
segment_is point underway turns = stage_needed point (need_at point) (origin_of underway) turns.1

-- the pc is that of the segment's hart

executing : ℕ → Option (HartState × Memory) → Option Executing
executing thread state = option_map (λ state. record { thread = thread; hart = state.0; memory = state.1 }) state

pub pc_is : (point : Point) (underway : PresentSegment) → IsTurns point (Some underway) → pc_by (own_at (record { point = point; steps = underway.done })) ≡ underway.hart.pc
unfolding own_at executing
pc_is point underway turns =
    ap (λ (origin : Option Origin). pc_by (own_by origin underway.done)) turns.1
    ∙ ap (λ (state : Option (HartState × Memory)). pc_by (executing underway.work.thread state)) turns.0.stands.runs.reached

-- a trap that was found stops the segment

found_by : (origin : Origin) (steps : ℕ) (point : Point) (trap : Option Trap) → origin_at point ≡ Some origin → IsItsTrap origin steps trap
    → IsTrapThere (record { point = point; steps = steps }) trap
found_by origin steps point None is found = tt
found_by origin steps point (Some trap) is found = ap (λ (needed : Option Origin). option_and_then (λ origin. stop_in origin steps) needed) is ∙ found

found_in : (point : Point) (underway : Option PresentSegment) → IsTurns point underway → IsTrapThere (record { point = point; steps = steps_of underway }) (trap_found underway)
found_in point None turns = tt
found_in point (Some underway) turns = found_by (origin_of underway) underway.done point underway.trap turns.1 turns.0.stands.is_trap

pub trap_is : (present : Present) → IsTurns (point_at present) present.underway → IsTrapThere (moment_of present) (trap_found present.underway)
trap_is present turns = found_in (point_at present) present.underway turns

-- the stage of a segment that has begun

trapped_by : (point : Point) (underway : PresentSegment) (trap : Trap) (pc : ℕ) (found : Option Trap) → IsTurns point (Some underway) → found ≡ Some trap → pc ≡ underway.hart.pc
    → Trapped pc trap ≡ stage_at (record { point = point; steps = underway.done }) found
trapped_by point underway trap pc None turns is same = absurd (cc)
trapped_by point underway trap pc (Some other) turns is same =
    let traps : trap ≡ other = cc in
    let pcs = same ∙ sym (pc_is point underway turns) in
    ap (λ (p : ℕ). Trapped p trap) pcs ∙ ap (λ (t : Trap). Trapped (pc_by (own_at (record { point = point; steps = underway.done }))) t) traps

going_by : (point : Point) (underway : PresentSegment) (found : Option Trap) → IsTurns point (Some underway) → found ≡ None → Segment ≡ stage_at (record { point = point; steps = underway.done }) found
going_by point underway None turns is = sym (segment_is point underway turns)
going_by point underway (Some other) turns is = absurd (cc)

pub trapped_is : (point : Point) (found : Option PresentSegment) (underway : PresentSegment) (trap : Trap) (pc : ℕ) → found ≡ Some underway → IsTurns point found → underway.trap ≡ Some trap → pc ≡ underway.hart.pc
    → Trapped pc trap ≡ stage_at (record { point = point; steps = steps_of found }) (trap_found found)
trapped_is point found underway trap pc is turns stopped same =
    let begun : IsTurns point (Some underway) = rw is at turns in
    rw is (trapped_by point underway trap pc underway.trap begun stopped same)

pub going_is : (point : Point) (found : Option PresentSegment) (underway : PresentSegment) → found ≡ Some underway → IsTurns point found → underway.trap ≡ None
    → Segment ≡ stage_at (record { point = point; steps = steps_of found }) (trap_found found)
going_is point found underway is turns goes =
    let begun : IsTurns point (Some underway) = rw is at turns in
    rw is (going_by point underway underway.trap begun goes)

-- the outcome at a trap

never_trapped : (asked : Need) (pc : ℕ) (trap : Trap) → Trapped pc trap ≡ stage_by asked → ⊥
never_trapped (need.Segment work) pc trap is = cc
never_trapped (need.Keeper work) pc trap is = cc
never_trapped (need.Wake thread) pc trap is = cc
never_trapped (need.Ended outcome) pc trap is = cc

outcome_by_trap : (point : Point) (underway : PresentSegment) (found : Option Trap) (thread last pc : ℕ) (trap : Trap) → IsTurns point (Some underway)
    → Trapped pc trap ≡ stage_at (record { point = point; steps = underway.done }) found → thread ≡ thread_at point last
    → Some (outcome.Trap thread pc trap) ≡ outcome_at (record { point = point; steps = underway.done }) found
outcome_by_trap point underway None thread last pc trap turns is same = absurd (never_trapped (need_at point) pc trap is)
outcome_by_trap point underway (Some other) thread last pc trap turns is same =
    let here = pc_by (own_at (record { point = point; steps = underway.done })) in
    let threads : thread ≡ thread_at point 0 = same ∙ sym (thread_is point underway last turns) ∙ thread_is point underway 0 turns in
    let pcs : pc ≡ here = cc in
    let traps : trap ≡ other = cc in
    ap (λ (t : ℕ). Some (outcome.Trap t pc trap)) threads ∙ ap (λ (p : ℕ). Some (outcome.Trap (thread_at point 0) p trap)) pcs
    ∙ ap (λ (t : Trap). Some (outcome.Trap (thread_at point 0) here t)) traps

pub trap_outcome : (point : Point) (found : Option PresentSegment) (thread last pc : ℕ) (trap : Trap) → IsTurns point found
    → Trapped pc trap ≡ stage_at (record { point = point; steps = steps_of found }) (trap_found found) → thread ≡ thread_at point last
    → Some (outcome.Trap thread pc trap) ≡ outcome_at (record { point = point; steps = steps_of found }) (trap_found found)
trap_outcome point None thread last pc trap turns is same = absurd (never_trapped (need_at point) pc trap is)
trap_outcome point (Some underway) thread last pc trap turns is same = outcome_by_trap point underway underway.trap thread last pc trap turns is same
