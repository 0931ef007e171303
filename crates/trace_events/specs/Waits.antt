-- What a thread waits for from one of its turns to the next, and whom a turn lets go.
use Rattle.std.specs.Prelude.{ℕ, Bool, false, ◌==◌, Option, Some, None, option_map, List, [], ◌∷◌, filter, map, take, slice_index}
use Rattle.abi.specs.Calls.{kind_of}
use Rattle.abi.specs.declared.call_kind.CallKind.{CallKind}
use Rattle.abi.specs.declared.call_kind.CallKind.TheVariants as kind
use Rattle.abi.specs.declared.reply.Reply.{Reply}
use Rattle.abi.specs.declared.reply.Reply.TheVariants.{Completed, Waits, Ends}
use Rattle.token.specs.declared.turn.TurnStop.{TurnStop}
use Rattle.token.specs.declared.turn.TurnStop.TheVariants.{Call, Trap, Quantum, Wake}
use Rattle.trace_events.specs.declared.release.Release.{Release}
use Rattle.trace_events.specs.declared.release.Release.TheVariants.{Made, First, All}
use Rattle.trace_events.specs.declared.wait.Wait.{Wait}
use Rattle.trace_events.specs.declared.wait.Wait.TheVariants.{Join, Condition, Barrier}
use Rattle.trace_events.specs.declared.waiting_thread.WaitingThread.{WaitingThread}

-- what a call that waits waits for; a lock never waits, since only the keeper of the token holds a mutex between two turns
abbrev pub wait_by : Option CallKind → (argument : ℕ) → Option Wait
wait_by None argument = None
wait_by (Some kind.Exit) argument = None
wait_by (Some kind.ThreadExit) argument = None
wait_by (Some kind.Create) argument = None
wait_by (Some kind.Join) argument = Some (Join argument)
wait_by (Some kind.Lock) argument = None
wait_by (Some kind.Unlock) argument = None
wait_by (Some kind.Wait) argument = Some (Condition argument)
wait_by (Some kind.Signal) argument = None
wait_by (Some kind.Broadcast) argument = None
wait_by (Some kind.Barrier) argument = Some (Barrier argument)
wait_by (Some kind.Write) argument = None
wait_by (Some kind.Read) argument = None
wait_by (Some kind.Memory) argument = None
wait_by (Some kind.Sync) argument = None
wait_by (Some kind.Release) argument = None

abbrev pub wait_by_reply : Reply → (number argument : ℕ) → Option Wait
wait_by_reply Waits number argument = wait_by (kind_of number) argument
wait_by_reply _ number argument = None

-- what the thread of a turn waits for after it, if it waits
unfoldable pub wait_of : TurnStop → Option Wait
wait_of (Call number arguments reply) = wait_by_reply reply number (slice_index arguments 0)
wait_of (Trap pc trap) = None
wait_of (Wake mutex) = None
wait_of (Quantum pc) = None

-- whether two waits are for the same
abbrev pub same_wait : Wait → Wait → Bool
same_wait (Join thread) (Join other) = thread == other
same_wait (Condition condition) (Condition other) = condition == other
same_wait (Barrier barrier) (Barrier other) = barrier == other
same_wait _ _ = false

-- the value of a completed call
abbrev pub value_of : Reply → Option ℕ
value_of (Completed code value) = value
value_of Waits = None
value_of Ends = None

-- whom a call lets go: the thread that it makes, those that wait for its thread's end, the first at a condition variable, all that
-- wait there, or all at the barrier that it completes
abbrev pub release_by : Option CallKind → (thread argument : ℕ) → Option ℕ → Option Release
release_by None thread argument value = None
release_by (Some kind.Exit) thread argument value = None
release_by (Some kind.ThreadExit) thread argument value = Some (All (Join thread))
release_by (Some kind.Create) thread argument value = option_map Made value
release_by (Some kind.Join) thread argument value = None
release_by (Some kind.Lock) thread argument value = None
release_by (Some kind.Unlock) thread argument value = None
release_by (Some kind.Wait) thread argument value = None
release_by (Some kind.Signal) thread argument value = Some (First (Condition argument))
release_by (Some kind.Broadcast) thread argument value = Some (All (Condition argument))
release_by (Some kind.Barrier) thread argument value = option_map (λ _. All (Barrier argument)) value
release_by (Some kind.Write) thread argument value = None
release_by (Some kind.Read) thread argument value = None
release_by (Some kind.Memory) thread argument value = None
release_by (Some kind.Sync) thread argument value = None
release_by (Some kind.Release) thread argument value = None

-- whom the turn of a thread lets go
unfoldable pub release_of : (thread : ℕ) → TurnStop → Option Release
release_of thread (Call number arguments reply) = release_by (kind_of number) thread (slice_index arguments 0) (value_of reply)
release_of thread (Trap pc trap) = None
release_of thread (Wake mutex) = None
release_of thread (Quantum pc) = None

-- those of some waiting threads that wait for this
abbrev pub threads_at : Wait → List WaitingThread → List ℕ
threads_at wait waiters = map (λ waiter. waiter.thread) (filter (λ waiter. same_wait waiter.wait wait) waiters)

-- the threads that are let go, of those that wait, the first to come in front
abbrev pub let_go : Option Release → List WaitingThread → List ℕ
let_go None waiters = []
let_go (Some (Made thread)) waiters = thread ∷ []
let_go (Some (First wait)) waiters = take 1 (threads_at wait waiters)
let_go (Some (All wait)) waiters = threads_at wait waiters
