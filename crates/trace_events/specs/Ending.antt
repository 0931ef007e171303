-- What follows the events of the last turn.
use Rattle.std.specs.Prelude.{ℕ, ◌*◌, ◌/◌, ◌%◌, ◌==◌, if◌then◌else◌, Option, Some, None, List, [], ◌++◌, codes, decimal, map}
use Rattle.std.specs.List.{enumerate_from, flat_map, range_with_len}
use Rattle.trace_events.specs.Events.{counter_events, idle_event, opening}
use Rattle.trace_events.specs.Threads.{in_use, instructions, thread_state}
use Rattle.trace_events.specs.Times.{newest, now, number_by, time_by}
use Rattle.trace_events.specs.Waits.{wait_of}
use Rattle.trace_events.specs.declared.thread_state.ThreadState.{ThreadState}
use Rattle.trace_events.specs.declared.timed_turn.TimedTurn.{TimedTurn}
use Rattle.trace_events.specs.declared.wait.Wait.{Wait}

-- all threads, by their numbers
abbrev pub thread_states : List TimedTurn → List ThreadState
thread_states done = map (thread_state done) (range_with_len 0 (in_use done))

-- a thread that waits after its last turn waits to the end
abbrev pub unended_by : Option Wait → Option TimedTurn → (thread to : ℕ) → List ℕ
unended_by None last thread to = []
unended_by (Some wait) last thread to = idle_event last thread to

abbrev pub wait_after : Option TimedTurn → Option Wait
wait_after None = None
wait_after (Some last) = wait_of last.turn.stop

abbrev pub unended_event : (to : ℕ) → ℕ × ThreadState → List ℕ
unended_event to (thread, state) = unended_by (wait_after state.last) state.last thread to

-- the quotient of two numbers with two decimals, rounded down
unfoldable pub hundredths_text : ℕ → List ℕ
hundredths_text number = decimal (number / 100) ++ codes "." ++ decimal (number / 10 % 10) ++ decimal (number % 10)

abbrev pub quotient_text : (dividend divisor : ℕ) → List ℕ
quotient_text dividend divisor = if divisor == 0 then codes "0.00" else hundredths_text (dividend * 100 / divisor)

-- {"thread":THREAD,"instructions":INSTRUCTIONS,"token":TOKEN}; thread 0 has the first turn
unfoldable pub row_text : (thread instructions token : ℕ) → List ℕ
row_text thread instructions token =
    (if thread == 0 then codes "" else codes ",") ++ codes "{\"thread\":" ++ decimal thread
    ++ codes ",\"instructions\":" ++ decimal instructions ++ codes ",\"token\":" ++ decimal token ++ codes "}"

-- a thread that had no turn has no row
abbrev pub row_by : Option TimedTurn → (thread : ℕ) → ThreadState → List ℕ
row_by None thread state = []
row_by (Some last) thread state = row_text thread state.instructions state.token

abbrev pub thread_row : ℕ × ThreadState → List ℕ
thread_row (thread, state) = row_by state.last thread state

abbrev pub phase_by : Option TimedTurn → ℕ
phase_by None = 0
phase_by (Some last) = last.turn.phase

-- ],"otherData":{"unit":"instructions",..,"threads":[
unfoldable pub totals_text : Option TimedTurn → (instructions : ℕ) → List ℕ
totals_text last instructions =
    (if number_by last == 0 then opening else codes "") ++ codes "\n],\"otherData\":{\"unit\":\"instructions\",\"critical_path\":" ++ decimal (time_by last)
    ++ codes ",\"instructions\":" ++ decimal instructions ++ codes ",\"processors\":" ++ quotient_text instructions (time_by last)
    ++ codes ",\"turns\":" ++ decimal (number_by last) ++ codes ",\"phases\":" ++ decimal (phase_by last) ++ codes ",\"threads\":["

abbrev pub unended_events : (to : ℕ) → List ThreadState → List ℕ
unended_events to states = flat_map (unended_event to) (enumerate_from 0 states)

abbrev pub thread_rows : List ThreadState → List ℕ
thread_rows states = flat_map thread_row (enumerate_from 0 states)

-- the end of the file
unfoldable pub ending : List TimedTurn → List ℕ
ending done =
    counter_events done (newest done) ++ unended_events (now done) (thread_states done)
    ++ totals_text (newest done) (instructions done) ++ thread_rows (thread_states done) ++ codes "]}}\n"
