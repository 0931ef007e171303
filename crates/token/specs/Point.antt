-- Where a run stands between two turns, and what a turn makes of that.
use Rattle.std.specs.Prelude.{ℕ, ◌+◌, ◌&&◌, ◌||◌, not, ◌==◌, nat_lt, if◌then◌else◌, Option, Some, None, is_some, List, length, slice_index}
use Rattle.guest_memory.specs.Memory.{Memory}
use Rattle.commit.specs.ByteMap.{ByteMap}
use Rattle.commit.specs.Changed.{addresses_of}
use Rattle.condvar_barrier.specs.Objects.{holds}
use Rattle.thread_table.specs.Status.{is_ready}
use Rattle.thread_table.specs.declared.status.Status.{Status}
use Rattle.thread_table.specs.declared.status.Status.TheVariants.{Woken}
use Rattle.thread_table.specs.declared.thread.Thread.{Thread}
use Rattle.call_table.specs.CommitAndWake.{committed_bytes}
use Rattle.call_table.specs.State.{State, row_of}
use Rattle.token.specs.Due.{thread_due, mutex_due}
use Rattle.token.specs.Outcome.{outcome_of_stop, quiet_outcome}
use Rattle.token.specs.Segments.{segment_of}
use Rattle.token.specs.Setup.{Setup, list_in, quantum_in}
use Rattle.token.specs.Turns.{Step, Stopped, after_stop, wake_step}
use Rattle.token.specs.declared.due.Due.{Due}
use Rattle.token.specs.declared.due.Due.TheVariants as due
use Rattle.token.specs.declared.need.Need.{Need}
use Rattle.token.specs.declared.need.Need.TheVariants as need
use Rattle.token.specs.declared.need.Work.{Work}
use Rattle.token.specs.declared.outcome.RunOutcome.{RunOutcome}
use Rattle.segment.specs.Ends.{IsEndOf}
use Rattle.segment.specs.declared.segment_end.SegmentEnd.{SegmentEnd}
use Rattle.token.specs.declared.turn.Turn.{Turn}

-- What stands between two turns: what the run was given, the phase of the next turn, the number of the phase's first version with its
-- memory and threads, the phase's list and how many of it were given the token, who keeps the token, how the run ended, the
-- state, how many turns were done, and how long the output was before the last turn.
pub record Point : Type 0 where
  pub setup : Setup
  pub phase : ℕ
  pub first : ℕ
  pub base : Memory
  pub base_threads : List Thread
  pub list : List ℕ
  pub given : ℕ
  pub keeper : Option ℕ
  pub ended : Option RunOutcome
  pub state : State
  pub done : ℕ
  pub fresh_from : ℕ

-- who is due: the keeper, or the next of the list
abbrev pub due_next : ℕ → Status → Due
due_next thread (Woken mutex) = due.Woken thread mutex
due_next thread _ = due.Fresh thread

abbrev pub due_by : Option ℕ → State → ℕ → Due
due_by (Some keeper) state next = due.Keeper keeper
due_by None state next = due_next next (row_of state next).status

unfoldable pub due_at : Point → Due
due_at point = due_by point.keeper point.state (slice_index point.list point.given)

-- its base: the phase's first version for a fresh segment, else the last version
abbrev pub base_at : Point → Due → State
base_at point (due.Fresh thread) = record point.state { memory = point.base; threads = point.base_threads }
base_at point (due.Keeper thread) = point.state
base_at point (due.Woken thread mutex) = point.state

-- the base's number
abbrev pub base_number_at : Point → Due → ℕ
base_number_at point (due.Fresh thread) = point.first
base_number_at point (due.Keeper thread) = point.done
base_number_at point (due.Woken thread mutex) = point.done

-- the segment of a thread from a base
abbrev pub work_from : Setup → State → ℕ → Option ℕ → Work
work_from setup base thread quantum =
    record { thread = thread; segment = segment_of setup.bound quantum (row_of base thread) }

-- what the turn of who is due needs
abbrev pub need_of : Point → Due → Need
need_of point (due.Fresh thread) =
    need.Segment (work_from point.setup (base_at point (due.Fresh thread)) thread (quantum_in point.setup point.phase thread point.base_threads))
need_of point (due.Keeper thread) = need.Keeper (work_from point.setup (base_at point (due.Keeper thread)) thread None)
need_of point (due.Woken thread mutex) = need.Wake thread

abbrev pub need_by : Option RunOutcome → Need → Need
need_by (Some ends) asked = need.Ended ends
need_by None asked = asked

-- what the next turn needs
unfoldable pub need_at : Point → Need
need_at point = need_by point.ended (need_of point (due_at point))

-- the patch of a segment's end, none at a wake
abbrev pub patch_of : Option SegmentEnd → Option ByteMap
patch_of None = None
patch_of (Some end) = Some end.patch

-- the end is what the next turn needs
abbrev pub IsNeededBy : Point → Need → Option SegmentEnd → Type 0
IsNeededBy point (need.Segment work) (Some end) = IsEndOf point.base work.segment end
IsNeededBy point (need.Keeper work) (Some end) = IsEndOf point.state.memory work.segment end
IsNeededBy point (need.Wake thread) None = Unit {0}
IsNeededBy point _ _ = ⊥

abbrev pub IsNeededAt : Point → Option SegmentEnd → Type 0
IsNeededAt point end = IsNeededBy point (need_at point) end

-- how a thread stopped by this end of its segment, which has executed so much then, and the state that it leaves
abbrev pub stopped_by : State → ℕ → SegmentEnd → ℕ → Stopped
stopped_by state thread end executed = after_stop (committed_bytes state thread end.patch end.hart executed) thread end.hart end.stop

-- the step of who is due, by the bytes that it changed
unfoldable pub ran_step : Point → Due → SegmentEnd → Step
ran_step point who end =
    let thread : ℕ = thread_due who in
    let stopped : Stopped = stopped_by point.state thread end ((row_of (base_at point who) thread).executed + end.count) in
    let addresses : List ℕ = addresses_of end.patch in
    record {
      turn = record { phase = point.phase; thread = thread; base = base_number_at point who; stop = stopped.stop; changed = length addresses; ran = end.count };
      changes = addresses;
      after = stopped.state;
    }

-- the step of who is woken
unfoldable pub woken_step : Point → Due → Step
woken_step point who = wake_step point.state point.phase (thread_due who) (base_number_at point who) (mutex_due who)

-- the step that the next turn makes
abbrev pub step_by : Point → Due → Option SegmentEnd → Step
step_by point who None = woken_step point who
step_by point who (Some end) = ran_step point who end

abbrev pub step_at : Point → Option SegmentEnd → Step
step_at point end = step_by point (due_at point) end

-- who keeps the token after a turn of a thread with this outcome, if it ends the run
unfoldable pub keeper_after : State → ℕ → Option RunOutcome → Option ℕ
keeper_after state thread outcome =
    if not (is_some outcome) && (is_ready (row_of state thread).status && holds state.objects thread) then Some thread else None

-- where a turn is counted, once the state is the one after it
unfoldable pub counted : Point → Turn → ℕ → Point
counted point turn fresh_from =
    record point {
      given = if is_some point.keeper then point.given else point.given + 1;
      keeper = keeper_after point.state turn.thread (outcome_of_stop turn.thread turn.stop);
      ended = outcome_of_stop turn.thread turn.stop;
      done = point.done + 1;
      fresh_from = fresh_from;
    }

-- where a run stands after a step, in the same phase
unfoldable pub after_step : Point → Step → Point
after_step point step = counted (record point { state = step.after }) step.turn (length point.state.output)

-- the next phase, or the end where nobody has a turn
unfoldable pub next_phase : Point → List ℕ → Point
next_phase point list =
    if length list == 0 then record point { ended = Some (quiet_outcome point.state) }
    else record point { phase = point.phase + 1; first = point.done; base = point.state.memory; base_threads = point.state.threads; list = list; given = 0 }

-- the next phase begins where the list is used up
unfoldable pub passed_on : Point → Point
passed_on point =
    if is_some point.ended || is_some point.keeper || nat_lt point.given (length point.list) then point
    else next_phase point (list_in point.setup (point.phase + 1) point.state.threads)

-- where a run stands after a step
abbrev pub moved : Point → Step → Point
moved point step = passed_on (after_step point step)
