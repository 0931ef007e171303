-- What some turns made of each thread. Lists of turns have the newest first.
use Rattle.std.specs.Prelude.{ℕ, ◌+◌, ◌-◌, ◌==◌, Bool, not, if◌then◌else◌, Option, Some, None, List, [], ◌∷◌, ◌++◌, filter, find, fold, max, sum_by}
use Rattle.std.specs.List.{list_any}
use Rattle.trace_events.specs.Times.{keeps}
use Rattle.trace_events.specs.Waits.{let_go, release_of, wait_of}
use Rattle.trace_events.specs.declared.thread_state.ThreadState.{ThreadState}
use Rattle.trace_events.specs.declared.timed_turn.TimedTurn.{TimedTurn}
use Rattle.trace_events.specs.declared.wait.Wait.{Wait}
use Rattle.trace_events.specs.declared.waiting_thread.WaitingThread.{WaitingThread}

-- whether a turn is a thread's
abbrev pub is_of : ℕ → TimedTurn → Bool
is_of thread timed = timed.turn.thread == thread

-- whether a thread is among some
abbrev pub is_among : ℕ → List ℕ → Bool
is_among thread threads = list_any (λ other. other == thread) threads

-- the last turn of a thread
unfoldable pub last_of : ℕ → List TimedTurn → Option TimedTurn
last_of thread done = find (is_of thread) done

-- a thread as one that waits, if it does
abbrev pub arrival : ℕ → Option Wait → List WaitingThread
arrival thread None = []
arrival thread (Some wait) = record { thread = thread; wait = wait } ∷ []

-- some waiting threads without those that are let go
abbrev pub without : List ℕ → List WaitingThread → List WaitingThread
without threads waiters = filter (λ waiter. not (is_among waiter.thread threads)) waiters

-- the threads that wait, the first to come in front
unfoldable pub waiting : List TimedTurn → List WaitingThread
waiting [] = []
waiting (timed ∷ before) =
    without (let_go (release_of timed.turn.thread timed.turn.stop) (waiting before)) (waiting before)
    ++ arrival timed.turn.thread (wait_of timed.turn.stop)

-- the threads that a turn lets go
abbrev pub freed : List TimedTurn → TimedTurn → List ℕ
freed before timed = let_go (release_of timed.turn.thread timed.turn.stop) (waiting before)

-- the turn that let a thread go since its own last one
unfoldable pub due : ℕ → List TimedTurn → Option TimedTurn
due thread [] = None
due thread (timed ∷ before) =
    if is_of thread timed then None else (if is_among thread (freed before timed) then Some timed else due thread before)

-- how long a turn waited for the token once its segment had ended
abbrev pub token_wait : TimedTurn → ℕ
token_wait timed = timed.time - (timed.begin + timed.turn.ran)

-- how many instructions a thread executed
unfoldable pub instructions_of : ℕ → List TimedTurn → ℕ
instructions_of thread done = sum_by (λ timed. if is_of thread timed then timed.turn.ran else 0) done

-- how long a thread's turns waited for the token
unfoldable pub token_of : ℕ → List TimedTurn → ℕ
token_of thread done = sum_by (λ timed. if is_of thread timed then token_wait timed else 0) done

-- all of it
abbrev pub thread_state : List TimedTurn → ℕ → ThreadState
thread_state done thread = record {
  last = last_of thread done;
  due = due thread done;
  instructions = instructions_of thread done;
  token = token_of thread done;
}

-- what is known of the thread of a turn after it
abbrev pub own_state : TimedTurn → ThreadState → ThreadState
own_state timed state = record {
  last = Some timed;
  due = None;
  instructions = state.instructions + timed.turn.ran;
  token = state.token + token_wait timed;
}

-- what is known of a thread once a turn has let it go, if it has
abbrev pub state_due : Bool → TimedTurn → ThreadState → ThreadState
state_due is_freed timed state = if is_freed then record state { due = Some timed } else state

-- what is known of a thread after a turn that let some threads go
abbrev pub state_after : List ℕ → TimedTurn → (thread : ℕ) → ThreadState → ThreadState
state_after threads timed thread state =
    if is_of thread timed then own_state timed state else state_due (is_among thread threads) timed state

-- the least number above some threads and not below a count
abbrev pub above : ℕ → List ℕ → ℕ
above count threads = fold (λ most thread. max most (thread + 1)) count threads

-- how many numbers of threads are in use, up to the largest of a thread that had a turn or was let go
unfoldable pub in_use : List TimedTurn → ℕ
in_use [] = 0
in_use (timed ∷ before) = max (above (in_use before) (freed before timed)) (timed.turn.thread + 1)

-- the instructions that all threads executed
unfoldable pub instructions : List TimedTurn → ℕ
instructions done = sum_by (λ timed. timed.turn.ran) done

-- How many threads had a turn in the phase that goes on, if it is this one: each is given the token once in it.
unfoldable pub ready_in : List TimedTurn → (phase : ℕ) → ℕ
ready_in [] phase = 0
ready_in (timed ∷ before) phase =
    if timed.turn.phase == phase then ready_in before phase + (if keeps before timed.turn then 0 else 1) else 0

-- how many pages the turns of that phase changed, each turn's counted by itself
unfoldable pub pages_in : List TimedTurn → (phase : ℕ) → ℕ
pages_in [] phase = 0
pages_in (timed ∷ before) phase = if timed.turn.phase == phase then pages_in before phase + timed.pages else 0
