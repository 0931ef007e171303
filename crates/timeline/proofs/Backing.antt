-- What is told of the steps that a motion back goes over.
use Rattle.std.proofs.Common.{◌≡◌, ◌∙◌, ℕ, suc, ◌+◌, ◌-◌, ◌<◌, ◌≤◌, true, false, if◌then◌else◌, Option, Some, None, refl, sym, ap, arith, inl, inr}
use Rattle.std.specs.Option.{option_or}
use Rattle.std.specs.Prelude.{min}
use Rattle.std.proofs.lemmas.Bool.{cases_order}
use Rattle.token.specs.Point.{Point, need_at}
use Rattle.token.specs.declared.need.Need.{Need}
use Rattle.token.specs.declared.need.Need.TheVariants as need
use Rattle.timeline.specs.Backward.{AreSilent, IsFound, IsLastTold, IsTold, IsToldOf, LeadsTo, looks}
use Rattle.timeline.specs.Calls.{call_at}
use Rattle.timeline.specs.Halting.{ArePlain, IsPlainWalk, address_at, end_at, event_at, halts_at, moves_other}
use Rattle.timeline.specs.Halts.{Wanted, address_halt, next_access, nothing}
use Rattle.timeline.specs.Moment.{Moment, moment_at, next_moment}
use Rattle.timeline.specs.Present.{BeginsAt, IsBegun, IsSound, IsStep, IsTurns, StaysInRun, moment_of, point_at, step_of, steps_of}
use Rattle.timeline.specs.Shown.{Executing, own_at}
use Rattle.timeline.specs.declared.halt.Halt.{Halt}
use Rattle.timeline.specs.declared.halt.Halt.TheVariants.{End, OtherThread}
use Rattle.timeline.specs.declared.present.Present.{Present}
use Rattle.timeline.specs.declared.scout.FoundHalt.{FoundHalt}
use Rattle.timeline.proofs.Calling.{call_nothing}
use Rattle.timeline.proofs.Ending.{earlier, leads_on, none_follows, only_end}
use Rattle.timeline.proofs.Positions.{at_start, then_next}
use Rattle.timeline.proofs.Passing.{silent_call, silent_turn}
use Rattle.timeline.proofs.Places.{no_event}
use Rattle.timeline.proofs.Turning.{stands_at}

-- nothing is told where nothing is asked for
pub nothing_at : (own : Option Executing) → (address_at nothing own ≡ None) × (event_at nothing.watches own ≡ None)
unfolding address_halt
nothing_at None = (refl, refl)
nothing_at (Some own) = (refl, sym (no_event (next_access own.hart own.memory)))

-- nothing is told of the positions of a turn that are passed
pub silent_walk : (wanted : Wanted) (start : Point) (old : Present) (to : ℕ) → BeginsAt start old → moves_other wanted.alone (need_at (point_at old)) ≡ false
    → ArePlain wanted (point_at old) (steps_of old.underway) (steps_of old.underway + (to - step_of old)) → AreSilent wanted start (step_of old) to
silent_walk wanted start old to begins moves plain = λ n low high.
    let k : ℕ = n - old.before in
    let here = plain k (omega (arith, low)) (omega (arith, low, high)) in
    let same : n ≡ old.before + k = omega (arith, low) in
    record {
      moment = record { point = point_at old; steps = k };
      there = ap (moment_at start) same ∙ here.within start old.before begins;
      after = rw (moves, here.event, here.call) refl;
      before = here.address;
    }

-- the last of the steps of a turn that isn't to move
pub moved_other : (wanted : Wanted) (start : Point) (old : Present) (to : ℕ) → BeginsAt start old → moves_other wanted.alone (need_at (point_at old)) ≡ true → step_of old < to
    → ArePlain wanted (point_at old) (steps_of old.underway) (steps_of old.underway + (to - step_of old)) → IsLastTold wanted start (step_of old) to OtherThread to
moved_other wanted start old to begins moves further plain =
    let k : ℕ = to - 1 - old.before in
    let here = plain k (omega (arith, further)) (omega (arith, further)) in
    let same : to - 1 ≡ old.before + k = omega (arith, further) in
    let after : to ≡ to - 1 + 1 = omega (arith, further) in
    record {
      step = to - 1;
      moment = record { point = point_at old; steps = k };
      at_step = ap (moment_at start) same ∙ here.within start old.before begins;
      since = omega (arith, further);
      within = omega (arith, further);
      told = inl (after, rw moves refl);
      silent = λ n low high. absurd (omega (arith, further, low, high));
    }

-- a step of another thread than the one that may move alone
pub other_step : (wanted : Wanted) (start : Point) (old : Present) (to : ℕ) → moment_at start (step_of old) ≡ Some (moment_of old) → moves_other wanted.alone (need_at (point_at old)) ≡ true
    → to ≡ step_of old + 1 → IsLastTold wanted start (step_of old) to OtherThread (step_of old + 1)
other_step wanted start old to there moves next =
    record {
      step = step_of old;
      moment = moment_of old;
      at_step = there;
      since = omega arith;
      within = omega (arith, next);
      told = inl (refl, rw moves refl);
      silent = λ n low high. absurd (omega (arith, next, low, high));
    }

-- a step at which is looked
pub looked_step : (wanted : Wanted) (start : Point) (old : Present) (to : ℕ) (found : Option FoundHalt) → moment_at start (step_of old) ≡ Some (moment_of old)
    → moves_other wanted.alone (need_at (point_at old)) ≡ false → to ≡ step_of old + 1 → IsToldOf wanted (moment_of old) (step_of old) found → IsFound wanted start (step_of old) to found
looked_step wanted start old to None there moves next told = λ n low high.
    let same : n ≡ step_of old = omega (arith, next, low, high) in
    record { moment = moment_of old; there = ap (moment_at start) same ∙ there; after = rw moves told.0; before = told.1 }
looked_step wanted start old to (Some found) there moves next told =
    record {
      step = step_of old;
      moment = moment_of old;
      at_step = there;
      since = omega arith;
      within = omega (arith, next);
      told = by told;
      silent = λ n low high. absurd (omega (arith, next, low, high));
    }
  where
    by : IsToldOf wanted (moment_of old) (step_of old) (Some found) → IsTold wanted (moment_of old) (step_of old) found.halt found.step
    by (inl (after, event)) = inl (after, rw moves event)
    by (inr (here, event, address)) = inr (here, rw moves event, address)

either : (wanted : Wanted) (start : Point) (from mid to : ℕ) → AreSilent wanted start from mid → AreSilent wanted start mid to → AreSilent wanted start from to
either wanted start from mid to before now = λ n low high.
    elim (cases_order n mid) [
      | inl same ↦ now n (omega (arith, same)) high
      | inr (inl below) ↦ before n low below
      | inr (inr above) ↦ now n (omega (arith, above)) high
    ]

-- what was found so far and what is found further on
pub then_found : (wanted : Wanted) (start : Point) (from mid to : ℕ) (last found : Option FoundHalt) → from ≤ mid → mid ≤ to → IsFound wanted start from mid last → IsFound wanted start mid to found
    → IsFound wanted start from to (option_or found last)
then_found wanted start from mid to last (Some found) since within before now =
    record {
      step = now.step;
      moment = now.moment;
      at_step = now.at_step;
      since = let after = now.since in omega arith;
      within = now.within;
      told = now.told;
      silent = now.silent;
    }
then_found wanted start from mid to (Some last) None since within before now =
    record {
      step = before.step;
      moment = before.moment;
      at_step = before.at_step;
      since = before.since;
      within = let below = before.within in omega arith;
      told = before.told;
      silent = either wanted start (before.step + 1) mid to before.silent now;
    }
then_found wanted start from mid to None None since within before now = either wanted start from mid to before now

-- a motion that is asked for nothing on the way, or of whose turn nothing is told, isn't halted before a step that the run leads to
pub not_halted : (wanted : Wanted) (start : Point) (old new : Present) (goal until : ℕ) (last : Moment) (halt : Option Halt) → IsStep old goal halt new → IsPlainWalk wanted old halt new
    → (point_at new ≡ point_at old
    → (address_at wanted (own_at (moment_of new)) ≡ None) × (event_at wanted.watches (own_at (moment_of new)) ≡ None) × (call_at wanted.watches (moment_of new) ≡ None))
    → IsTurns (point_at new) new.underway → BeginsAt start new → goal ≤ until → moment_at start until ≡ Some last → (step_of old < step_of new) × (step_of new ≤ goal)
not_halted wanted start old new goal until last None step walk quiet turns begins within leads = step
not_halted wanted start old new goal until last (Some halt) step walk quiet turns begins within leads =
    let none = quiet walk.1 in
    let ends : end_at (moment_of new) ≡ Some halt = rw (none.0, none.2, none.1) at walk.2 in
    let before : step_of new < goal = step.1 in
    absurd (leads_on start (step_of new) until (moment_of new) last halt (stands_at start new turns begins) ends (omega (arith, before, within)) leads)

-- a motion that is asked for nothing goes on where the run leads further
pub goes_on : (start : Point) (wanted : Wanted) (old begun new : Present) (goal until : ℕ) (last : Moment) (halt : Option Halt) → wanted ≡ nothing → step_of begun ≡ step_of old
    → IsStep begun goal halt new → IsPlainWalk wanted begun halt new → IsTurns (point_at new) new.underway → BeginsAt start new → goal ≤ until → moment_at start until ≡ Some last
    → (step_of old < step_of new) × (step_of new ≤ goal)
goes_on start wanted old begun new goal until last halt same_wanted same step walk turns begins within leads =
    let there = not_halted nothing start begun new goal until last halt step (rw same_wanted at walk) quiet turns begins within leads in
    (omega (arith, same, there.0), there.1)
  where
    quiet : point_at new ≡ point_at begun
        → (address_at nothing (own_at (moment_of new)) ≡ None) × (event_at nothing.watches (own_at (moment_of new)) ≡ None) × (call_at nothing.watches (moment_of new) ≡ None)
    quiet same =
        let none = nothing_at (own_at (moment_of new)) in
        (none.0, none.1, call_nothing (moment_of new))

-- the run leads from a position to those before another of its positions
pub leads_to : (start : Point) (present other : Present) (step : ℕ) → BeginsAt start present → BeginsAt start other → IsTurns (point_at other) other.underway → step ≤ step_of other → LeadsTo present step
leads_to start present other step begins other_begins turns within =
    let there = earlier start step (step_of other) (moment_of other) within (stands_at start other turns other_begins) in
    record { start = start; begins = begins; moment = there.0; there = there.1 }

-- where nothing is asked for, a motion halts at the end alone
pub halts_at_end : (moment : Moment) (halt : Halt) → halts_at nothing moment ≡ Some halt → (halt ≡ End) × (end_at moment ≡ Some End)
unfolding halts_at
halts_at_end moment halt is =
    let none = nothing_at (own_at moment) in
    let call = call_nothing moment in
    let threads = no_threads (need_at moment.point) in
    let ends : end_at moment ≡ Some halt = rw (none.0, threads, call, none.1) at is in
    let end = only_end moment halt ends in
    (end, ends ∙ ap Some end)
  where
    no_threads : (asked : Need) → (if moves_other None asked then Some OtherThread else None) ≡ None
    no_threads (need.Segment work) = refl
    no_threads (need.Keeper work) = refl
    no_threads (need.Wake thread) = refl
    no_threads (need.Ended outcome) = refl

-- the next position of a run, by that of a run that begins with its turn
pub next_of : (present copy after : Present) → point_at copy ≡ point_at present → steps_of copy.underway ≡ steps_of present.underway → copy.before ≡ 0 → IsSound copy
    → StaysInRun copy after → step_of after ≡ step_of copy + 1 → next_moment (moment_of present) ≡ Some (moment_of after)
next_of present copy after point steps before sound stays next =
    let start = point_at copy in
    let begins : BeginsAt start copy = rw before (at_start start) in
    let here = stands_at start copy sound.turns begins in
    let there = stands_at start after stays.sound.turns (stays.begins start begins) in
    let same : moment_of copy ≡ moment_of present = λ i. record { point = point i; steps = steps i } in
    let more : suc (step_of copy) ≡ step_of after = omega (arith, next) in
    ap next_moment (sym same) ∙ sym (then_next start (step_of copy) (moment_of copy) here) ∙ ap (moment_at start) more ∙ there

-- none if that run halts where it stands
pub none_next : (present copy after : Present) (halt : Halt) (wanted : Wanted) → point_at copy ≡ point_at present → steps_of copy.underway ≡ steps_of present.underway → copy.before ≡ 0 → IsSound copy
    → StaysInRun copy after → wanted ≡ nothing → IsStep copy (step_of copy + 1) (Some halt) after
    → IsPlainWalk wanted copy (Some halt) after → next_moment (moment_of present) ≡ None
none_next present copy after halt wanted point steps before sound stays same_wanted step walk =
    let start = point_at copy in
    let begins : BeginsAt start copy = rw before (at_start start) in
    let here = stands_at start copy sound.turns begins in
    let there = stands_at start after stays.sound.turns (stays.begins start begins) in
    let same : moment_of copy ≡ moment_of present = λ i. record { point = point i; steps = steps i } in
    let kept : step_of after ≡ step_of copy = omega (arith, step.0, step.1) in
    let both : Some (moment_of copy) ≡ Some (moment_of after) = sym here ∙ ap (moment_at start) (sym kept) ∙ there in
    let moment : moment_of copy ≡ moment_of after = ap (moment_or (moment_of copy)) both in
    let halts = rw same_wanted at walk.2 in
    let none = nothing_at (own_at (moment_of after)) in
    let ends : end_at (moment_of after) ≡ Some halt = rw (none.0, call_nothing (moment_of after), none.1) at halts in
    ap next_moment (sym same ∙ moment) ∙ none_follows (moment_of after) halt ends
  where
    moment_or : Moment → Option Moment → Moment
    moment_or moment None = moment
    moment_or moment (Some other) = other

-- a motion by one step that is asked for nothing makes it
pub one_step : (old new : Present) (wanted : Wanted) (halt : Option Halt) (here : ℕ) → LeadsTo old (step_of old + 1) → here ≡ step_of old → wanted ≡ nothing
    → IsStep old (here + 1) halt new → IsPlainWalk wanted old halt new → StaysInRun old new → step_of new ≡ step_of old + 1
one_step old new wanted halt here leads same same_wanted step walk stays =
    let goal : here + 1 ≡ step_of old + 1 = omega (arith, same) in
    let on =
    goes_on leads.start wanted old old new (step_of old + 1) (step_of old + 1) leads.moment halt same_wanted refl (rw goal at step) walk stays.sound.turns (stays.begins leads.start leads.begins) (omega arith)
    leads.there in
    omega (arith, on.0, on.1)

-- a motion over a turn of which nothing is told
pub turn_passed : (wanted : Wanted) (old new : Present) (until : ℕ) (halt : Option Halt) → IsSound old → IsBegun (point_at old) old.underway → looks wanted old.underway ≡ false → LeadsTo old until
    → IsStep old until halt new → IsPlainWalk wanted old halt new → StaysInRun old new → (step_of old < step_of new) × (step_of new ≤ until)
turn_passed wanted old new until halt sound begun is leads step walk stays =
    not_halted wanted leads.start old new until until leads.moment halt step walk quiet stays.sound.turns (stays.begins leads.start leads.begins) (omega arith) leads.there
  where
    quiet : point_at new ≡ point_at old
        → (address_at wanted (own_at (moment_of new)) ≡ None) × (event_at wanted.watches (own_at (moment_of new)) ≡ None) × (call_at wanted.watches (moment_of new) ≡ None)
    quiet same =
        let none = silent_turn wanted (point_at old) old.underway (steps_of new.underway) sound.turns begun is in
        let call = silent_call wanted (point_at old) old.underway (steps_of new.underway) begun is in
        rw same (none.0, none.1, call)

pub plain_of : (wanted : Wanted) (old new : Present) (halt : Option Halt) → IsPlainWalk wanted old halt new → ArePlain wanted (point_at old) (steps_of old.underway) (steps_of old.underway + (step_of new - step_of old))
plain_of wanted old new None walk = walk
plain_of wanted old new (Some halt) walk = walk.0

-- the last step of which something is told, and where a motion back from a step ends for it
pub ends_there : (wanted : Wanted) (start : Point) (from here place there : ℕ) (halt : Halt) → IsLastTold wanted start from here halt place → there ≡ min place here
    → IsLastTold wanted start 0 here halt there
ends_there wanted start from here place there halt last ends =
    let below : last.step < here = last.within in
    let same : there ≡ place = by last.told below in
    record {
      step = last.step;
      moment = last.moment;
      at_step = last.at_step;
      since = omega arith;
      within = last.within;
      told = rw same last.told;
      silent = last.silent;
    }
  where
    by : IsTold wanted last.moment last.step halt place → last.step < here → there ≡ place
    by (inl (after, told)) below = omega (arith, after, ends, below)
    by (inr (at_step, silent, told)) below = omega (arith, at_step, ends, below)
