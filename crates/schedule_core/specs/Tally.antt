-- The abstract world of a schedule, which holds counts alone, and a row for each event: where it is enabled and what it does.
use Rattle.std.specs.Prelude.{◌≡◌, ℕ, ◌+◌, Bool, true, false, not, ◌==◌, nat_lt, if◌then◌else◌, Option, Some, None, is_some, List, [], ◌∷◌, length, slice_get, take, Err}
use Rattle.schedule.specs.Phase.{Counts, advanced, begun, is_enabled, made, opened, worker_of}
use Rattle.schedule.specs.Verdict.{Verdict, GoesOn}
use Rattle.schedule.specs.declared.job_progress.JobProgress.{JobProgress}
use Rattle.schedule.specs.declared.event.Event.{Event}
use Rattle.schedule.specs.declared.event.Event.TheVariants.{Draw, Step, Note, Skip, Post, Hold, Turn}
use Rattle.schedule.specs.declared.fate.Fate.{Fate}
use Rattle.schedule.specs.declared.fate.Fate.TheVariants.{Open, Posted, Skipped}
use Rattle.token.specs.Point.{Point, IsNeededAt, moved, need_at, step_at}
use Rattle.token.specs.declared.need.Need.{Need}
use Rattle.token.specs.declared.need.Need.TheVariants as need
use Rattle.segment.specs.declared.segment_end.SegmentEnd.{SegmentEnd}
use Rattle.schedule_core.specs.Faults.{IsAnswerTo}
use Rattle.schedule_core.specs.Jobs.{Start, job_of, jobs_of, start_of, verdict_by, verdicts_of}
use Rattle.schedule_core.specs.declared.event_fault.EventFault.{EventFault}
use Rattle.schedule_core.specs.declared.event_fault.EventFault.TheVariants.{NoWorker, NotEnabled, Ended}

-- how many turns were done, what the present phase counts, and how far the segment of the thread that keeps the token has come
pub record Tally : Type 0 where
  pub turns : ℕ
  pub counts : Counts
  pub keeper : JobProgress

-- whether the result of a job was posted
abbrev pub is_posted : Option Fate → Bool
is_posted (Some Posted) = true
is_posted (Some Open) = false
is_posted (Some Skipped) = false
is_posted None = false

abbrev pub is_posted_at : List Fate → Option ℕ → Bool
is_posted_at fates None = false
is_posted_at fates (Some job) = is_posted (slice_get fates job)

-- Hold: there is a keeper, and its segment hasn't stopped.
abbrev pub is_hold_enabled : Need → JobProgress → Bool
is_hold_enabled (need.Keeper work) keeper = not keeper.stopped
is_hold_enabled (need.Segment work) keeper = false
is_hold_enabled (need.Wake thread) keeper = false
is_hold_enabled (need.Ended outcome) keeper = false

-- Turn: the keeper has stopped; or without a keeper the next of the list is woken, or its result is posted.
abbrev pub is_turn_enabled : Start → Need → Tally → Bool
is_turn_enabled start (need.Keeper work) tally = tally.keeper.stopped
is_turn_enabled start (need.Wake thread) tally = true
is_turn_enabled start (need.Segment work) tally = is_posted_at tally.counts.fates (job_of start work.thread)
is_turn_enabled start (need.Ended outcome) tally = false

-- whether an event is enabled
abbrev pub is_enabled_in : Point → Tally → Event → Bool
is_enabled_in point tally Hold = is_hold_enabled (need_at point) tally.keeper
is_enabled_in point tally Turn = is_turn_enabled (start_of point) (need_at point) tally
is_enabled_in point tally (Draw worker) = is_enabled (verdicts_of (start_of point)) tally.counts (Draw worker)
is_enabled_in point tally (Step worker) = is_enabled (verdicts_of (start_of point)) tally.counts (Step worker)
is_enabled_in point tally (Note worker) = is_enabled (verdicts_of (start_of point)) tally.counts (Note worker)
is_enabled_in point tally (Skip worker) = is_enabled (verdicts_of (start_of point)) tally.counts (Skip worker)
is_enabled_in point tally (Post worker) = is_enabled (verdicts_of (start_of point)) tally.counts (Post worker)

-- whether the worker of an event is there
abbrev pub is_there : ℕ → Option ℕ → Bool
is_there workers None = true
is_there workers (Some worker) = nat_lt worker workers

abbrev pub refusal_if : Bool → Bool → Bool → Option EventFault
refusal_if ended there enabled = if ended then Some Ended else (if not there then Some NoWorker else (if not enabled then Some NotEnabled else None))

-- Why an event is refused: the run has ended, or else the worker isn't there, or else the event isn't enabled.
abbrev pub refusal_of : Point → Tally → Event → Option EventFault
refusal_of point tally event = refusal_if (is_some point.ended) (is_there (length tally.counts.workers) (worker_of event)) (is_enabled_in point tally event)

-- what the keeper's segment comes to after so many steps
abbrev pub keeper_verdict : Point → Need → ℕ → Verdict
keeper_verdict point (need.Keeper work) steps = verdict_by point.state.memory work steps
keeper_verdict point (need.Segment work) steps = GoesOn
keeper_verdict point (need.Wake thread) steps = GoesOn
keeper_verdict point (need.Ended outcome) steps = GoesOn

-- what the phase counts after a turn: the next phase opens by itself
abbrev pub counts_after : Point → Point → Counts → Counts
counts_after before after counts = if after.phase == before.phase then counts else opened (length (jobs_of (start_of after))) (length counts.workers)

-- The abstract world after an event that is enabled, which led from one point to another.
abbrev pub tally_after : Point → Point → Tally → Event → Tally
tally_after before after tally Hold = record tally { keeper = advanced (keeper_verdict before (need_at before) tally.keeper.steps) tally.keeper }
tally_after before after tally Turn = record { turns = tally.turns + 1; counts = counts_after before after tally.counts; keeper = begun }
tally_after before after tally (Draw worker) = record tally { counts = made (verdicts_of (start_of before)) tally.counts (Draw worker) }
tally_after before after tally (Step worker) = record tally { counts = made (verdicts_of (start_of before)) tally.counts (Step worker) }
tally_after before after tally (Note worker) = record tally { counts = made (verdicts_of (start_of before)) tally.counts (Note worker) }
tally_after before after tally (Skip worker) = record tally { counts = made (verdicts_of (start_of before)) tally.counts (Skip worker) }
tally_after before after tally (Post worker) = record tally { counts = made (verdicts_of (start_of before)) tally.counts (Post worker) }

-- A turn is one with what the run needs there.
pub record IsTurn (before after : Point) : Type 0 where
  pub end : Option SegmentEnd
  pub needed : IsNeededAt before end
  pub done : after ≡ moved before (step_at before end)

-- Turn does a turn, and no other event changes anything that turns stand on.
abbrev pub Moves : Point → Point → Event → Type 0
Moves before after Turn = IsTurn before after
Moves before after Hold = after ≡ before
Moves before after (Draw worker) = after ≡ before
Moves before after (Step worker) = after ≡ before
Moves before after (Note worker) = after ≡ before
Moves before after (Skip worker) = after ≡ before
Moves before after (Post worker) = after ≡ before

-- An event happens: it leads from a point and an abstract world to these.
pub record Happens (before : Point) (old : Tally) (event : Event) (after : Point) (new : Tally) : Type 0 where
  pub moves : Moves before after event
  pub tally : new ≡ tally_after before after old event

-- A list of events happens in turn, none of which is refused.
unfoldable pub HappenInTurn : Point → Tally → List Event → Point → Tally → Type 0
HappenInTurn before old [] after new = (after ≡ before) × (new ≡ old)
HappenInTurn before old (event ∷ events) after new =
    (between : Point) × (tally : Tally) × (refusal_of before old event ≡ None) × Happens before old event between tally × HappenInTurn between tally events after new

-- Of a list of events those before a place happen in turn, and the one at it is refused with this fault, or memory runs out for it.
pub record IsRefusedAt (before : Point) (old : Tally) (events : List Event) (place : ℕ) (fault : EventFault) (after : Point) (new : Tally) : Type 0 where
  pub event : Event
  pub there : slice_get events place ≡ Some event
  pub happened : HappenInTurn before old (take place events) after new
  pub refused : IsAnswerTo (refusal_of after new event) (Err fault)
