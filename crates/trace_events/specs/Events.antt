-- The events of a turn, as texts: each on a line of its own, behind the comma that ends the line before.
use Rattle.std.specs.Prelude.{ℕ, ◌+◌, ◌-◌, ◌==◌, Bool, false, if◌then◌else◌, nat_lt, Option, Some, None, List, [], ◌++◌, codes, decimal}
use Rattle.token.specs.declared.turn.TurnStop.{TurnStop}
use Rattle.token.specs.declared.turn.TurnStop.TheVariants.{Call, Trap, Quantum, Wake}
use Rattle.tracer.specs.TraceText.{name_text, stop_text}
use Rattle.trace_events.specs.Threads.{due, last_of, pages_in, ready_in}
use Rattle.trace_events.specs.Times.{is_wake, newest, start}
use Rattle.trace_events.specs.Waits.{wait_of}
use Rattle.trace_events.specs.declared.timed_turn.TimedTurn.{TimedTurn}
use Rattle.trace_events.specs.declared.wait.Wait.{Wait}
use Rattle.trace_events.specs.declared.wait.Wait.TheVariants.{Join, Condition, Barrier}

-- {"ph":KIND,"pid":1,"tid":THREAD,"ts":TIME
unfoldable pub head_text : (kind : List ℕ) → (thread time : ℕ) → List ℕ
head_text kind thread time =
    codes ",\n{\"ph\":" ++ kind ++ codes ",\"pid\":1,\"tid\":" ++ decimal thread ++ codes ",\"ts\":" ++ decimal time

-- the beginning of the file
abbrev pub opening : List ℕ
opening = codes "{\"traceEvents\":["

-- what comes before a thread's first event, if its turn has this number
abbrev pub separator : (number : ℕ) → List ℕ
separator number = if number == 1 then opening else codes ","

-- {"ph":"M","pid":1,"tid":THREAD,"name":"thread_name","args":{"name":"thread THREAD"}}
unfoldable pub name_event : (number thread : ℕ) → List ℕ
name_event number thread =
    separator number ++ codes "\n{\"ph\":\"M\",\"pid\":1,\"tid\":" ++ decimal thread
    ++ codes ",\"name\":\"thread_name\",\"args\":{\"name\":\"thread " ++ decimal thread ++ codes "\"}}"

-- {"ph":"X",..,"dur":LENGTH,"name":"NAME","cat":"wait","args":{"turn":NUMBER}}
abbrev pub wait_begin : (thread from to : ℕ) → List ℕ
wait_begin thread from to = head_text (codes "\"X\"") thread from ++ codes ",\"dur\":" ++ decimal (to - from) ++ codes ",\"name\":\""

abbrev pub wait_end : (number : ℕ) → List ℕ
wait_end number = codes "\",\"cat\":\"wait\",\"args\":{\"turn\":" ++ decimal number ++ codes "}}"

abbrev pub wait_slice : (thread from to : ℕ) → (name : List ℕ) → (number : ℕ) → List ℕ
wait_slice thread from to name number = wait_begin thread from to ++ name ++ wait_end number

-- a wait that takes no time is left out
abbrev pub wait_event : (thread from to : ℕ) → (name : List ℕ) → (number : ℕ) → List ℕ
wait_event thread from to name number = if nat_lt from to then wait_slice thread from to name number else []

-- what a thread waits for
unfoldable pub wait_text : Wait → List ℕ
wait_text (Join thread) = codes "join " ++ decimal thread
wait_text (Condition condition) = codes "wait " ++ decimal condition
wait_text (Barrier barrier) = codes "barrier " ++ decimal barrier

-- who waits for nothing waits for the other turns of its phase
abbrev pub wait_name : Option Wait → List ℕ
wait_name None = codes "phase"
wait_name (Some wait) = wait_text wait

-- what a thread did from its last turn on, up to a time
abbrev pub idle_event : Option TimedTurn → (thread to : ℕ) → List ℕ
idle_event None thread to = []
idle_event (Some last) thread to = wait_event thread last.time to (wait_name (wait_of last.turn.stop)) last.number

-- {"ph":"X",..,"dur":RAN,"name":"segment","cat":"segment","args":{"turn":NUMBER,"phase":PHASE,"changed":CHANGED,"pages":PAGES}}
unfoldable pub segment_slice : TimedTurn → List ℕ
segment_slice timed =
    head_text (codes "\"X\"") timed.turn.thread timed.begin ++ codes ",\"dur\":" ++ decimal timed.turn.ran
    ++ codes ",\"name\":\"segment\",\"cat\":\"segment\",\"args\":{\"turn\":" ++ decimal timed.number
    ++ codes ",\"phase\":" ++ decimal timed.turn.phase ++ codes ",\"changed\":" ++ decimal timed.turn.changed
    ++ codes ",\"pages\":" ++ decimal timed.pages ++ codes "}}"

abbrev pub segment_event : TimedTurn → List ℕ
segment_event timed = if is_wake timed.turn.stop then [] else segment_slice timed

-- the wait for the token once the segment has ended
abbrev pub token_event : TimedTurn → List ℕ
token_event timed = wait_event timed.turn.thread (timed.begin + timed.turn.ran) timed.time (codes "token") timed.number

-- what a turn is called
abbrev pub stop_name : TurnStop → List ℕ
stop_name (Call number arguments reply) = name_text number
stop_name (Trap pc trap) = codes "trap"
stop_name (Wake mutex) = codes "wake"
stop_name (Quantum pc) = codes "quantum"

-- {"ph":"i","s":"t",..,"name":"NAME","cat":"turn","args":{"turn":NUMBER,"text":"TEXT"}}
unfoldable pub turn_event : TimedTurn → List ℕ
turn_event timed =
    head_text (codes "\"i\",\"s\":\"t\"") timed.turn.thread timed.time
    ++ codes ",\"name\":\"" ++ stop_name timed.turn.stop ++ codes "\",\"cat\":\"turn\",\"args\":{\"turn\":" ++ decimal timed.number
    ++ codes ",\"text\":\"" ++ stop_text timed.turn.stop ++ codes "\"}}"

-- what a turn that begins or ends a thread's wait is called in its flow
abbrev pub flow_by : Option Wait → Option (List ℕ)
flow_by None = None
flow_by (Some (Join thread)) = Some (codes "join")
flow_by (Some (Condition condition)) = Some (codes "signal")
flow_by (Some (Barrier barrier)) = Some (codes "barrier")

-- a thread's first turn flows from its creation, and others from the end of the wait before
abbrev pub flow_name : Option TimedTurn → Option (List ℕ)
flow_name None = Some (codes "create")
flow_name (Some last) = flow_by (wait_of last.turn.stop)

-- ,"name":"NAME","cat":"flow","id":NUMBER}
unfoldable pub flow_end : (name : List ℕ) → (number : ℕ) → List ℕ
flow_end name number = codes ",\"name\":\"" ++ name ++ codes "\",\"cat\":\"flow\",\"id\":" ++ decimal number ++ codes "}"

-- the flow from the turn that let a thread go to its next turn
unfoldable pub flow_text : (name : List ℕ) → (from to : TimedTurn) → List ℕ
flow_text name from to =
    head_text (codes "\"s\"") from.turn.thread from.time ++ flow_end name to.number
    ++ head_text (codes "\"f\",\"bp\":\"e\"") to.turn.thread to.begin ++ flow_end name to.number

abbrev pub flow_event : Option (List ℕ) → Option TimedTurn → TimedTurn → List ℕ
flow_event None from to = []
flow_event (Some name) None to = []
flow_event (Some name) (Some from) to = flow_text name from to

-- the counters of a phase, at its start and at its last turn
unfoldable pub counter_texts : (from to ready pages : ℕ) → List ℕ
counter_texts from to ready pages =
    codes ",\n{\"ph\":\"C\",\"pid\":1,\"ts\":" ++ decimal from ++ codes ",\"name\":\"ready threads\",\"args\":{\"threads\":" ++ decimal ready
    ++ codes "}},\n{\"ph\":\"C\",\"pid\":1,\"ts\":" ++ decimal to ++ codes ",\"name\":\"changed pages\",\"args\":{\"pages\":" ++ decimal pages ++ codes "}}"

-- the counters of the last phase of some turns
abbrev pub counter_events : List TimedTurn → Option TimedTurn → List ℕ
counter_events done None = []
counter_events done (Some last) = counter_texts (start done last.turn.phase) last.time (ready_in done last.turn.phase) (pages_in done last.turn.phase)

-- whether a turn is of the phase of the turn before
abbrev pub is_in_phase : (phase : ℕ) → Option TimedTurn → Bool
is_in_phase phase None = false
is_in_phase phase (Some last) = last.turn.phase == phase

-- the events before a turn's own: a phase's counters come with the first turn of the next one
abbrev pub phase_events : List TimedTurn → TimedTurn → List ℕ
phase_events before timed = if is_in_phase timed.turn.phase (newest before) then [] else counter_events before (newest before)

-- a thread's name at its first turn
abbrev pub name_by_last : Option TimedTurn → TimedTurn → List ℕ
name_by_last None timed = name_event timed.number timed.turn.thread
name_by_last (Some last) timed = []

-- the events of a turn of a thread with this last turn, which this turn let go
unfoldable pub own_events : (last cause : Option TimedTurn) → TimedTurn → List ℕ
own_events last cause timed =
    name_by_last last timed
    ++ idle_event last timed.turn.thread timed.begin
    ++ segment_event timed
    ++ token_event timed
    ++ turn_event timed
    ++ flow_event (flow_name last) cause timed

-- all events of a turn behind others
unfoldable pub events : List TimedTurn → TimedTurn → List ℕ
events before timed =
    phase_events before timed ++ own_events (last_of timed.turn.thread before) (due timed.turn.thread before) timed
