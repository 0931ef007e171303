-- The events of a turn's end: of the call that it makes, or of a wake.
use Rattle.std.specs.Prelude.{◌≡◌, ℕ, zero, suc, Bool, true, false, if◌then◌else◌, Option, Some, None, List, [], ◌∷◌, ◌++◌, Vec, length, map, slice_get}
use Rattle.std.specs.List.{filter}
use Rattle.std.specs.declared.alloc.Global.{Global}
use Rattle.abi.specs.Calls.{touched_in}
use Rattle.abi.specs.Limits as limit
use Rattle.abi.specs.declared.call.Call.{Call}
use Rattle.abi.specs.declared.call.Call.TheVariants as call
use Rattle.abi.specs.declared.code.Code.TheVariants.{Done}
use Rattle.abi.specs.declared.reply.Reply.{Reply}
use Rattle.abi.specs.declared.reply.Reply.TheVariants.{Completed, Waits, Ends}
use Rattle.abi.specs.declared.touched.Touched.{Touched}
use Rattle.abi.specs.declared.touched.Touched.TheVariants.{Nothing, Loads, Stores}
use Rattle.ecalls.specs.Request.{call_of}
use Rattle.condvar_barrier.specs.Objects.{ObjectState, holds_mutex}
use Rattle.hart.specs.HartState.{HartState}
use Rattle.races.specs.declared.observed_event.ObservedEvent.{ObservedEvent}
use Rattle.races.specs.declared.observed_event.ObservedEvent.TheVariants as event
use Rattle.segment.specs.declared.segment_end.SegmentEnd.{SegmentEnd}
use Rattle.thread_table.specs.Status.{has_turn}
use Rattle.thread_table.specs.declared.status.Status.{Status}
use Rattle.thread_table.specs.declared.status.Status.TheVariants.{Ready, Woken, Blocked, Done as Over}
use Rattle.thread_table.specs.declared.thread.Thread.{Thread}
use Rattle.token.specs.declared.turn.TurnStop.{TurnStop}
use Rattle.token.specs.declared.turn.TurnStop.TheVariants as stop
use Rattle.observed_run.specs.Events.{accesses, byte_of, load_site, store_site}
use Rattle.observed_run.specs.declared.actor.Actor.{Actor}

abbrev pub is_blocked : Status → Bool
is_blocked Ready = false
is_blocked (Woken mutex) = false
is_blocked Blocked = true
is_blocked (Over value) = false

-- whether there is a thread whose status passes
abbrev pub has_status : (Status → Bool) → Option Thread → Bool
has_status passes None = false
has_status passes (Some row) = passes row.status

-- the numbers below a count that pass, ascending
unfoldable pub passing : (ℕ → Bool) → (count : ℕ) → List ℕ
passing passes zero = []
passing passes (suc count) = passing passes count ++ (if passes count then count ∷ [] else [])

-- the threads that are blocked
abbrev pub blocked_in : List Thread → List ℕ
blocked_in threads = passing (λ number. has_status is_blocked (slice_get threads number)) (length threads)

-- the mutexes that a thread holds
abbrev pub held_by : ObjectState → (thread : ℕ) → List ℕ
held_by objects thread = passing (holds_mutex objects thread) limit.objects

-- who was let go in a turn: of the threads that were blocked before it those that have a turn after it
abbrev pub has_turn_in : List Thread → (number : ℕ) → Bool
has_turn_in threads number = has_status has_turn (slice_get threads number)

abbrev pub let_go : (blocked : List ℕ) → (after : List Thread) → List ℕ
let_go blocked after = map byte_of (filter (has_turn_in after) blocked)

-- a round of a barrier: those who waited, and who completed it
abbrev pub IsRound : Actor → List ℕ → List ObservedEvent → Type 0
IsRound actor passed events = (threads : Vec ℕ Global) × (threads.items ≡ passed ++ actor.thread ∷ []) × (events ≡ event.Round threads ∷ [])

-- the value of a call
abbrev pub value_or : Option ℕ → ℕ
value_or None = 0
value_or (Some value) = value

-- a signal or broadcast
abbrev pub signals : Actor → (passed : List ℕ) → List ObservedEvent
signals actor passed = map (event.LetGo actor.thread) passed

-- a call with code 0: whom it orders; the last of a barrier's round completes the round
abbrev pub AreOrdered : Actor → (passed : List ℕ) → (value : ℕ) → Call → List ObservedEvent → Type 0
AreOrdered actor passed value (call.Exit status) events = events ≡ []
AreOrdered actor passed value (call.ThreadExit end_value) events = events ≡ []
AreOrdered actor passed value (call.Create entry argument stack_pointer) events = events ≡ event.Create actor.thread (byte_of value) ∷ []
AreOrdered actor passed value (call.Join number) events = events ≡ event.Join actor.thread (byte_of number) ∷ []
AreOrdered actor passed value (call.Lock mutex) events = events ≡ event.Lock actor.thread mutex ∷ []
AreOrdered actor passed value (call.Unlock mutex) events = events ≡ event.Unlock actor.thread mutex ∷ []
AreOrdered actor passed value (call.Wait condition mutex) events = events ≡ []
AreOrdered actor passed value (call.Signal condition) events = events ≡ signals actor passed
AreOrdered actor passed value (call.Broadcast condition) events = events ≡ signals actor passed
AreOrdered actor passed value (call.Barrier barrier count) events = IsRound actor passed events
AreOrdered actor passed value (call.Write address length) events = events ≡ []
AreOrdered actor passed value (call.Read address length) events = events ≡ []
AreOrdered actor passed value (call.Memory pages) events = events ≡ []
AreOrdered actor passed value call.Sync events = events ≡ []
AreOrdered actor passed value (call.Release address pages) events = events ≡ []
AreOrdered actor passed value (call.Unknown number) events = events ≡ []

-- a call with code 0 that loads or stores in the guest's memory: a load is as long as the call asks, a store as its value says; any other
abbrev pub AreTouched : Actor → (pc : ℕ) → (passed : List ℕ) → (value : ℕ) → Call → Touched → List ObservedEvent → Type 0
AreTouched actor pc passed value asked Nothing events = AreOrdered actor passed value asked events
AreTouched actor pc passed value asked (Loads address length) events = events ≡ accesses (load_site actor pc) address length
AreTouched actor pc passed value asked (Stores address length) events = events ≡ accesses (store_site actor pc) address value

abbrev pub AreCompleted : Actor → (pc : ℕ) → (passed : List ℕ) → (value : ℕ) → Call → List ObservedEvent → Type 0
AreCompleted actor pc passed value asked events = AreTouched actor pc passed value asked (touched_in asked) events

-- a call whose caller waits
abbrev pub waiting : Actor → Call → List ObservedEvent
waiting actor (call.Exit status) = []
waiting actor (call.ThreadExit end_value) = []
waiting actor (call.Create entry argument stack_pointer) = []
waiting actor (call.Join number) = []
waiting actor (call.Lock mutex) = []
waiting actor (call.Unlock mutex) = []
waiting actor (call.Wait condition mutex) = event.Unlock actor.thread mutex ∷ []
waiting actor (call.Signal condition) = []
waiting actor (call.Broadcast condition) = []
waiting actor (call.Barrier barrier count) = []
waiting actor (call.Write address length) = []
waiting actor (call.Read address length) = []
waiting actor (call.Memory pages) = []
waiting actor call.Sync = []
waiting actor (call.Release address pages) = []
waiting actor (call.Unknown number) = []

-- the end of a thread: it has no mutex any longer, and the joins of it are completed
abbrev pub unlocks : Actor → (held : List ℕ) → List ObservedEvent
unlocks actor held = map (event.Unlock actor.thread) held

abbrev pub joins : Actor → (passed : List ℕ) → List ObservedEvent
joins actor passed = map (λ joiner. event.Join joiner actor.thread) passed

abbrev pub thread_end : Actor → (held passed : List ℕ) → List ObservedEvent
thread_end actor held passed = unlocks actor held ++ event.End actor.thread ∷ joins actor passed

-- a call that ends its caller or the run
abbrev pub ending : Actor → (held passed : List ℕ) → Call → List ObservedEvent
ending actor held passed (call.Exit status) = []
ending actor held passed (call.ThreadExit end_value) = thread_end actor held passed
ending actor held passed (call.Create entry argument stack_pointer) = []
ending actor held passed (call.Join number) = []
ending actor held passed (call.Lock mutex) = []
ending actor held passed (call.Unlock mutex) = []
ending actor held passed (call.Wait condition mutex) = []
ending actor held passed (call.Signal condition) = []
ending actor held passed (call.Broadcast condition) = []
ending actor held passed (call.Barrier barrier count) = []
ending actor held passed (call.Write address length) = []
ending actor held passed (call.Read address length) = []
ending actor held passed (call.Memory pages) = []
ending actor held passed call.Sync = []
ending actor held passed (call.Release address pages) = []
ending actor held passed (call.Unknown number) = []

-- a call with its reply; one that is refused orders nothing
abbrev pub AreOfCall : Actor → (pc : ℕ) → (held passed : List ℕ) → Call → Reply → List ObservedEvent → Type 0
AreOfCall actor pc held passed asked (Completed Done value) events = AreCompleted actor pc passed (value_or value) asked events
AreOfCall actor pc held passed asked (Completed code value) events = events ≡ []
AreOfCall actor pc held passed asked Waits events = events ≡ waiting actor asked
AreOfCall actor pc held passed asked Ends events = events ≡ ending actor held passed asked

-- a stop of a thread's segment with this hart; a trap and a quantum order nothing
abbrev pub AreOfStop : Actor → HartState → (held passed : List ℕ) → TurnStop → List ObservedEvent → Type 0
AreOfStop actor hart held passed (stop.Call number arguments reply) events = AreOfCall actor hart.pc held passed (call_of hart) reply events
AreOfStop actor hart held passed (stop.Trap at trap) events = events ≡ []
AreOfStop actor hart held passed (stop.Quantum at) events = events ≡ []
AreOfStop actor hart held passed (stop.Wake mutex) events = events ≡ []

-- the turn of a woken thread, which takes its mutex
abbrev pub wake_events : Actor → TurnStop → List ObservedEvent
wake_events actor (stop.Wake mutex) = event.Lock actor.thread mutex ∷ []
wake_events actor (stop.Call number arguments reply) = []
wake_events actor (stop.Trap at trap) = []
wake_events actor (stop.Quantum at) = []

-- what follows a segment that ended so, or stands for it
abbrev pub AreOfEnd : Actor → Option SegmentEnd → (held passed : List ℕ) → TurnStop → List ObservedEvent → Type 0
AreOfEnd actor None held passed stop events = events ≡ wake_events actor stop
AreOfEnd actor (Some end) held passed stop events = AreOfStop actor end.hart held passed stop events
