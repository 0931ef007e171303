-- What a recorder was told of a run, turn after turn.
use Rattle.std.proofs.Common.{◌≡◌, ◌∙◌, ◌∷◌, ◌++◌, ℕ, ◌+◌, true, false, Bool, Option, Some, None, List, [], ap, arith, refl, sym, subst}
use Rattle.std.specs.Prelude.{◌==◌, ◌||◌, if◌then◌else◌, is_some, length, nat_lt}
use Rattle.races.specs.Findings.{FindingRecords}
use Rattle.races.specs.declared.observed_event.ObservedEvent.{ObservedEvent}
use Rattle.races.specs.declared.finding_recorder.FindingRecorder.{FindingRecorder}
use Rattle.segment.specs.declared.segment_end.SegmentEnd.{SegmentEnd}
use Rattle.token.specs.Outcome.{quiet_outcome}
use Rattle.token.specs.Point.{Point, IsNeededAt, IsNeededBy, after_step, counted, moved, need_at, next_phase, passed_on, step_at}
use Rattle.token.specs.History.{History}
use Rattle.token.specs.Serial.{StandsAfter}
use Rattle.token.specs.Setup.{list_in}
use Rattle.token.specs.Turns.{Step}
use Rattle.token.specs.declared.need.Need.{Need}
use Rattle.token.specs.declared.need.Need.TheVariants as need
use Rattle.token.specs.declared.outcome.RunOutcome.{RunOutcome}
use Rattle.token.specs.declared.turn.TurnStop.{TurnStop}
use Rattle.runtime.proofs.Needs.{end_in}
use Rattle.observed_run.specs.Calls.{AreOfEnd, blocked_in, held_by, let_go}
use Rattle.observed_run.specs.Runs.{AreEvents, AreLast, AreOfTurn, actor_of, last_actor, needed_events, thread_by}
use Rattle.observed_run.specs.Told.{IsTold}
use Rattle.observed_run.specs.declared.actor.Actor.{Actor}
use Rattle.observed_run.proofs.Told.{told_more}

-- the next phase leaves the state as it was
passed_state : (point : Point) → (passed_on point).state ≡ point.state
unfolding passed_on next_phase
passed_state point =
    by_test (is_some point.ended || is_some point.keeper || nat_lt point.given (length point.list)) (length (list_in point.setup (point.phase + 1) point.state.threads) == 0)
  where
    by_test : (goes empty : Bool) → (if goes then point
        else (if empty then record point { ended = Some (quiet_outcome point.state) }
        else record point { phase = point.phase + 1; first = point.done; base = point.state.memory; base_threads = point.state.threads; list = list_in point.setup (point.phase + 1) point.state.threads; given = 0 })).state ≡ point.state
    by_test true empty = refl
    by_test false true = refl
    by_test false false = refl

-- the state after a turn is its step's
pub moved_state : (point : Point) (step : Step) → (moved point step).state ≡ step.after
unfolding after_step counted
moved_state point step = passed_state (after_step point step)

-- a turn that is needed is no end
pub no_end : (asked : Need) → ((outcome : RunOutcome) → asked ≡ need.Ended outcome → ⊥) → end_in asked ≡ None
no_end (need.Segment work) turn = refl
no_end (need.Keeper work) turn = refl
no_end (need.Wake thread) turn = refl
no_end (need.Ended outcome) turn = absurd (turn outcome refl)

-- what follows the segment of a turn, by what was looked up for it
pub last_is : (actor given : Actor) (point : Point) (thread : ℕ) (end : Option SegmentEnd) (step : Step) (held passed : List ℕ) (stop : TurnStop) (events : List ObservedEvent)
    → given ≡ actor → held ≡ held_by point.state.objects thread → passed ≡ let_go (blocked_in point.state.threads) step.after.threads → stop ≡ step.turn.stop
    → AreOfEnd given end held passed stop events → AreLast actor point thread end step events
last_is actor given point thread end step held passed stop events same holds goes stops are =
    subst (λ (it : TurnStop). AreOfEnd actor end (held_by point.state.objects thread) (let_go (blocked_in point.state.threads) step.after.threads) it events) stops
    (subst (λ (it : List ℕ). AreOfEnd actor end (held_by point.state.objects thread) it stop events) goes
    (subst (λ (it : List ℕ). AreOfEnd actor end it passed stop events) holds
    (subst (λ (it : Actor). AreOfEnd it end held passed stop events) same are)))

module _ (start point after : Point) (events last : List ObservedEvent) (before between now : FindingRecorder)
    (are : AreEvents start point events) (records : FindingRecords before events) (told_last : IsTold between now last) where
  abbrev Leads : Type 0
  Leads = (more : List ObservedEvent) × AreEvents start after more × FindingRecords now more

  -- a turn that needs this, with this end of its segment and these events of it
  pub by_need : (asked : Need) (end : Option SegmentEnd) → need_at point ≡ asked → IsNeededBy point asked end
      → IsTold before between (needed_events (actor_of point.done (thread_by asked)) point asked end)
      → AreLast (last_actor point.done (thread_by asked) end) point (thread_by asked) end (step_at point end) last
      → after ≡ moved point (step_at point end) → Leads
  by_need asked end is needed told are_last moves =
      let first : List ObservedEvent = needed_events (actor_of point.done (thread_by (need_at point))) point (need_at point) end in
      let needed_now : IsNeededAt point end = subst (λ (n : Need). IsNeededBy point n end) (sym is) needed in
      let told_now : IsTold before between first = subst (λ (n : Need). IsTold before between (needed_events (actor_of point.done (thread_by n)) point n end)) (sym is) told in
      let last_now : AreLast (last_actor point.done (thread_by (need_at point)) end) point (thread_by (need_at point)) end (step_at point end) last =
      subst (λ (n : Need). AreLast (last_actor point.done (thread_by n) end) point (thread_by n) end (step_at point end) last) (sym is) are_last in
      let of_turn : AreOfTurn point end (first ++ last) = record { last = last; is_last = last_now; all = refl } in (
        events ++ (first ++ last),
        subst (λ (p : Point). AreEvents start p (events ++ (first ++ last))) (sym moves) (AreEvents.turn are needed_now of_turn),
        told_more before between now first last told_now told_last events records,
      )

none_of : (history : History) → length history ≡ 0 → history ≡ []
none_of [] is = refl
none_of (step ∷ before) is = absurd (omega (arith, is))

-- a run of which no turn is done stands after the empty history
pub at_start : (point start : Point) (history : History) → point ≡ start → start.done ≡ 0 → StandsAfter point history → StandsAfter start []
at_start point start history same none stands =
    let empty : history ≡ [] = none_of history (stands.done ∙ ap (λ (p : Point). p.done) same ∙ none) in
    subst (λ (p : Point). StandsAfter p []) same (subst (λ (h : History). StandsAfter point h) empty stands)
