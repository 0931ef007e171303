-- The timeline of a run: a file in the Trace Event Format.
use Rattle.std.specs.Prelude.{ℕ, List, [], ◌∷◌, ◌++◌, map, zip}
use Rattle.token.specs.Change.{Change}
use Rattle.token.specs.declared.turn.Turn.{Turn}
use Rattle.trace_events.specs.Ending.{ending}
use Rattle.trace_events.specs.Events.{events}
use Rattle.trace_events.specs.Pages.{page_count}
use Rattle.trace_events.specs.Times.{timed}
use Rattle.trace_events.specs.declared.recorded_turn.RecordedTurn.{RecordedTurn}
use Rattle.trace_events.specs.declared.timed_turn.TimedTurn.{TimedTurn}

-- a turn, and how many pages it changed
abbrev pub entry_of : Turn → Change → RecordedTurn
entry_of turn change = record { turn = turn; pages = page_count change.addresses }

unfoldable pub entries_of : List Turn → List Change → List RecordedTurn
entries_of turns changes = map (λ (turn, change). entry_of turn change) (zip turns changes)

-- the file up to the events of the last of some turns
unfoldable pub begun_text : List TimedTurn → List ℕ
begun_text [] = []
begun_text (timed ∷ before) = begun_text before ++ events before timed

-- the whole file
abbrev pub whole_text : List TimedTurn → List ℕ
whole_text done = begun_text done ++ ending done

-- the timeline of these turns, which made these changes
unfoldable pub timeline_text : List Turn → List Change → List ℕ
timeline_text turns changes = whole_text (timed (entries_of turns changes))
