-- The events of a run, turn by turn.
use Rattle.std.specs.Prelude.{◌≡◌, ℕ, ◌+◌, ◌-◌, ◌%◌, ◌^◌, ◌<◌, ◌⊎◌, Option, Some, None, Result, Ok, Err, List, [], ◌++◌, IsSome}
use Rattle.guest_memory.specs.Memory.{Memory}
use Rattle.races.specs.Findings.{AreFindings, FindingRecords}
use Rattle.races.specs.declared.observed_event.ObservedEvent.{ObservedEvent}
use Rattle.races.specs.declared.finding.Finding.{Finding}
use Rattle.races.specs.declared.finding_recorder.FindingRecorder.{FindingRecorder}
use Rattle.runtime.specs.Recorded.{Recording}
use Rattle.runtime.specs.declared.interruption.Interruption.{Interruption}
use Rattle.segment.specs.declared.segment.Segment.{Segment}
use Rattle.segment.specs.declared.segment_end.SegmentEnd.{SegmentEnd}
use Rattle.token.specs.Point.{Point, IsNeededAt, moved, need_at, step_at}
use Rattle.token.specs.RunInTurn.{point_of}
use Rattle.token.specs.Serial.{IsLonger, StandsAfter}
use Rattle.token.specs.Setup.{Setup}
use Rattle.token.specs.History.{History}
use Rattle.token.specs.Turns.{Step}
use Rattle.token.specs.declared.need.Need.{Need}
use Rattle.token.specs.declared.need.Need.TheVariants as need
use Rattle.token.specs.declared.outcome.RunOutcome.{RunOutcome}
use Rattle.token.specs.declared.run_in_turn.RunInTurn.{RunInTurn}
use Rattle.observed_run.specs.Calls.{AreOfEnd, blocked_in, held_by, let_go}
use Rattle.observed_run.specs.Events.{actor_after, byte_of, events_upto, steps_before}
use Rattle.observed_run.specs.Told.{IsTold}
use Rattle.observed_run.specs.declared.actor.Actor.{Actor}

-- who has the next turn
abbrev pub thread_by : Need → ℕ
thread_by (need.Segment work) = work.thread
thread_by (need.Keeper work) = work.thread
thread_by (need.Wake thread) = thread
thread_by (need.Ended outcome) = 0

-- a thread in the turn after so many (no run has 2^64 of them)
abbrev pub actor_of : (done thread : ℕ) → Actor
actor_of done thread = record { thread = byte_of thread; turn = (done + 1) % 2 ^ 64; instruction = 0 }

-- and after the segment of its turn
abbrev pub executed_in : Option SegmentEnd → ℕ
executed_in None = 0
executed_in (Some end) = steps_before end.stop end.count

abbrev pub last_actor : (done thread : ℕ) → Option SegmentEnd → Actor
last_actor done thread end = actor_after (actor_of done thread) (executed_in end)

-- the events of a segment on a copy of a memory, up to this end
abbrev pub segment_events : Actor → Segment → Memory → SegmentEnd → List ObservedEvent
segment_events actor segment copy end = events_upto actor segment.hart copy (steps_before end.stop end.count)

-- the events of the segment that a turn needs
abbrev pub needed_events : Actor → Point → Need → Option SegmentEnd → List ObservedEvent
needed_events actor point (need.Segment work) (Some end) = segment_events actor work.segment point.base end
needed_events actor point (need.Keeper work) (Some end) = segment_events actor work.segment point.state.memory end
needed_events actor point _ _ = []

-- what follows them in the turn of a thread: what the call orders, or the wake
abbrev pub AreLast : Actor → Point → (thread : ℕ) → Option SegmentEnd → Step → List ObservedEvent → Type 0
AreLast actor point thread end step events =
    AreOfEnd actor end (held_by point.state.objects thread) (let_go (blocked_in point.state.threads) step.after.threads) step.turn.stop events

-- the events of the next turn, with this end of its segment: those of its instructions, then those of its call
pub record AreOfTurn (point : Point) (end : Option SegmentEnd) (events : List ObservedEvent) : Type 0 where
  pub last : List ObservedEvent
  pub is_last : AreLast (last_actor point.done (thread_by (need_at point)) end) point (thread_by (need_at point)) end (step_at point end) last
  pub all : events ≡ needed_events (actor_of point.done (thread_by (need_at point))) point (need_at point) end ++ last

-- the events of the turns that lead from one point of a run to another
pub data AreEvents (start : Point) : Point → List ObservedEvent → Type 0 where
  none : AreEvents start start []
  turn : {point : Point} {events more : List ObservedEvent} {end : Option SegmentEnd} → AreEvents start point events → IsNeededAt point end → AreOfTurn point end more
      → AreEvents start (moved point (step_at point end)) (events ++ more)

-- The findings are those of the events of all turns of a run that was given this, from its beginning to its end.
pub record AreFindingsOf (setup : Setup) (findings : List Finding) : Type 0 where
  pub start : Point
  pub begins : StandsAfter start []
  pub setup_is : start.setup ≡ setup
  pub point : Point
  pub events : List ObservedEvent
  pub ended : IsSome point.ended
  pub are_events : AreEvents start point events
  pub are_findings : AreFindings events findings

-- a run may begin with a sink and a recorder: no turn of it is done, the sink's count of failures has room, and nothing is recorded
pub record MayBegin {R S : Type 0} (records : Recording R) (failed : S → ℕ) (start : RunInTurn) (sink : S) (recorder : R) : Type 0 where
  pub done : (point_of start).done ≡ 0
  pub output : (point_of start).state.output ≡ []
  pub failures : failed sink < 2 ^ 64 - 1
  pub none : records recorder [] []

-- how the turns of a run ended for which findings were found
abbrev pub ended_in : {Found : Type 0} → Result (RunOutcome × Found) Interruption → Result RunOutcome Interruption
ended_in (Ok found) = Ok found.0
ended_in (Err interruption) = Err interruption

-- a run stands after some legal history
abbrev pub IsLegalPoint : Point → Type 0
IsLegalPoint point = (history : History) × StandsAfter point history

-- The run has moved from one point to another, and its recorder of findings was told the events of the turns between.
abbrev pub Leads : (run run' : RunInTurn) (findings findings' : FindingRecorder) → Type 0
Leads run run' findings findings' =
    (start : Point) (events : List ObservedEvent) → AreEvents start (point_of run) events → FindingRecords findings events
    → (more : List ObservedEvent) × AreEvents start (point_of run') more × FindingRecords findings' more

-- Turns of a run were legal, and its recorder of findings was told their events.
pub record LeadsLegally (run run' : RunInTurn) (findings findings' : FindingRecorder) : Type 0 where
  pub leads : Leads run run' findings findings'
  pub legal : IsLegalPoint (point_of run)

-- the recorder of findings was told what follows the segment of a turn
abbrev pub TellsLast : RunInTurn → (findings findings' : FindingRecorder) → (thread : ℕ) → Option SegmentEnd → Type 0
TellsLast run findings findings' thread end =
    (last : List ObservedEvent)
    × AreLast (last_actor (point_of run).done thread end) (point_of run) thread end (step_at (point_of run) end) last
    × IsTold findings findings' last

-- a turn that failed may have been done
abbrev pub MayMove : Point → Point → Type 0
MayMove old new = (new ≡ old) ⊎ IsLonger old new
