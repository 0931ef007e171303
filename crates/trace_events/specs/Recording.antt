-- What a recorder of a timeline has recorded.
use Rattle.std.specs.Prelude.{◌≡◌, ℕ, Option, Some, None, List, ◌∷◌, ◌++◌, drop, length, slice_index_or}
use Rattle.std.specs.String.{string_bytes}
use Rattle.token.specs.Change.{Change}
use Rattle.token.specs.declared.turn.Turn.{Turn}
use Rattle.tracer.specs.Recording.{Holds}
use Rattle.trace_events.specs.Threads.{in_use, instructions, pages_in, ready_in, thread_state, waiting}
use Rattle.trace_events.specs.Timeline.{begun_text, entries_of}
use Rattle.trace_events.specs.Times.{newest, start, timed, timed_turn}
use Rattle.trace_events.specs.declared.recorded_turn.RecordedTurn.{RecordedTurn}
use Rattle.trace_events.specs.declared.outlet.Outlet.{Outlet}
use Rattle.trace_events.specs.declared.phase_counts.PhaseCounts.{PhaseCounts}
use Rattle.trace_events.specs.declared.run_progress.RunProgress.{RunProgress}
use Rattle.trace_events.specs.declared.thread_state.ThreadState.{ThreadState}
use Rattle.trace_events.specs.declared.timed_turn.TimedTurn.{TimedTurn}
use Rattle.trace_events.specs.declared.timeline_recorder.TimelineRecorder.{TimelineRecorder}

-- a thread of which nothing is known
abbrev pub blank : ThreadState
blank = record { last = None; due = None; instructions = 0; token = 0 }

-- what is known of a thread
abbrev pub state_at : List ThreadState → ℕ → ThreadState
state_at states thread = slice_index_or states thread blank

-- what is counted of a phase
abbrev pub phase_at : List TimedTurn → (phase : ℕ) → PhaseCounts
phase_at done phase = record { start = start done phase; ready = ready_in done phase; pages = pages_in done phase }

-- of that of the last turn
abbrev pub phase_of : List TimedTurn → Option TimedTurn → PhaseCounts
phase_of done None = record { start = 0; ready = 0; pages = 0 }
phase_of done (Some last) = phase_at done last.turn.phase

-- what is known of a run is that of these turns
pub record Knows (progress : RunProgress) (done : List TimedTurn) : Type 0 where
  pub last : progress.last ≡ newest done
  pub phase : progress.phase ≡ phase_of done (newest done)
  pub instructions : progress.instructions ≡ instructions done
  pub waiters : progress.waiters.items ≡ waiting done
  pub in_use : length progress.threads.items ≡ in_use done
  pub threads : (thread : ℕ) → state_at progress.threads.items thread ≡ thread_state done thread

-- a text has what is told of the turns that are known appended
abbrev pub AppendsOf : RunProgress → (List TimedTurn → List ℕ) → List ℕ → List ℕ → Type 0
AppendsOf progress told old new = (done : List TimedTurn) → Knows progress done → new ≡ old ++ told done

-- what the writer hasn't taken yet
abbrev pub unsent : {W : Type 0} → Outlet W → List ℕ
unsent outlet = drop outlet.sent (string_bytes outlet.text)

-- what the writer took and what it hasn't taken yet are together this text
pub record Sends {W : Type 0} (contents : W → Option (List ℕ)) (outlet : Outlet W) (text : List ℕ) : Type 0 where
  pub written : List ℕ
  pub holds : Holds contents outlet.writer written
  pub whole : written ++ unsent outlet ≡ text

-- some turns, and one more if there is one
abbrev pub with_entry : List TimedTurn → Option RecordedTurn → List TimedTurn
with_entry done None = done
with_entry done (Some entry) = timed_turn done entry ∷ done

-- The text so far is that of all turns but one whose events aren't made yet.
pub record IsTimeline {W : Type 0} (contents : W → Option (List ℕ)) (recorder : TimelineRecorder W) (turns : List Turn) (changes : List Change) : Type 0 where
  pub done : List TimedTurn
  pub knows : Knows recorder.progress done
  pub sends : Sends contents recorder.outlet (begun_text done)
  pub all : timed (entries_of turns changes) ≡ with_entry done recorder.last
  pub paired : length changes ≡ length turns

-- A recorder that ran out of memory or couldn't write records nothing any more, and its end fails.
abbrev pub Records : {W : Type 0} → (W → Option (List ℕ)) → TimelineRecorder W → List Turn → List Change → Type 0
Records contents recorder turns changes = recorder.failure ≡ None → IsTimeline contents recorder turns changes

-- what a recorder has recorded stays recorded
abbrev pub KeepsRecords : {W : Type 0} → (W → Option (List ℕ)) → TimelineRecorder W → TimelineRecorder W → Type 0
KeepsRecords contents old new = (turns : List Turn) (changes : List Change) → Records contents old turns changes → Records contents new turns changes
