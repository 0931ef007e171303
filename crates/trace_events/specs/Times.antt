-- The turns of a run with their times, in instructions, as if each thread had a processor of its own. Lists of turns have the newest first.
use Rattle.std.specs.Prelude.{ℕ, ◌+◌, ◌==◌, ◌&&◌, ◌||◌, Bool, true, false, if◌then◌else◌, Option, Some, None, List, [], ◌∷◌, fold, max}
use Rattle.token.specs.declared.turn.Turn.{Turn}
use Rattle.token.specs.declared.turn.TurnStop.{TurnStop}
use Rattle.token.specs.declared.turn.TurnStop.TheVariants.{Call, Trap, Quantum, Wake}
use Rattle.trace_events.specs.declared.recorded_turn.RecordedTurn.{RecordedTurn}
use Rattle.trace_events.specs.declared.timed_turn.TimedTurn.{TimedTurn}

-- the last of some turns
abbrev pub newest : List TimedTurn → Option TimedTurn
newest [] = None
newest (timed ∷ before) = Some timed

abbrev pub number_by : Option TimedTurn → ℕ
number_by None = 0
number_by (Some timed) = timed.number

abbrev pub time_by : Option TimedTurn → ℕ
time_by None = 0
time_by (Some timed) = timed.time

-- the time of the last of some turns, 0 before the first
abbrev pub now : List TimedTurn → ℕ
now done = time_by (newest done)

abbrev pub keeps_by : Option TimedTurn → Turn → Bool
keeps_by None turn = false
keeps_by (Some timed) turn = timed.turn.phase == turn.phase && timed.turn.thread == turn.thread

-- whether the thread of a turn kept the token: the turn before is its own, in the same phase
abbrev pub keeps : List TimedTurn → Turn → Bool
keeps done turn = keeps_by (newest done) turn

-- whether a turn is that of a woken thread
abbrev pub is_wake : TurnStop → Bool
is_wake (Wake mutex) = true
is_wake (Call number arguments reply) = false
is_wake (Trap pc trap) = false
is_wake (Quantum pc) = false

-- the time of the last turn before those of this phase, with which the phase begins
unfoldable pub start : List TimedTurn → (phase : ℕ) → ℕ
start [] phase = 0
start (timed ∷ before) phase = if timed.turn.phase == phase then start before phase else timed.time

-- When a turn's segment begins: with its phase, or at the turn before if the thread kept the token. A wake takes no time.
abbrev pub begin : List TimedTurn → Turn → ℕ
begin done turn = if keeps done turn || is_wake turn.stop then now done else start done turn.phase

-- A turn is done once its segment has ended, and not before the turn before it.
abbrev pub timed_turn : List TimedTurn → RecordedTurn → TimedTurn
timed_turn done entry = record {
  number = number_by (newest done) + 1;
  turn = entry.turn;
  pages = entry.pages;
  begin = begin done entry.turn;
  time = max (now done) (begin done entry.turn + entry.turn.ran);
}

-- turns with their times, of entries with the first turn's in front
unfoldable pub timed : List RecordedTurn → List TimedTurn
timed entries = fold (λ done entry. timed_turn done entry ∷ done) [] entries
