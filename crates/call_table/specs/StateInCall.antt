use Rattle.std.specs.Prelude.{◌≡◌, ℕ, ◌<◌, true, false, Result, IfOk, OnOk, OnErr, length, drop}
use Rattle.std.specs.declared.alloc.AllocError.{AllocError}
use Rattle.abi.specs.Limits as limit
use Rattle.abi.specs.declared.reply.Reply.{Reply}
use Rattle.condvar_barrier.specs.Objects.{is_waiting}
use Rattle.paged_memory.specs.Snapshot.{cells_of}
use Rattle.thread_table.specs.Status.{is_ready}
use Rattle.call_table.specs.State.{State, row_of}
use Rattle.call_table.specs.Effects.{Effect, settled}
use Rattle.call_table.specs.Waiting.{are_parked}
use Rattle.call_table.specs.declared.state_in_call.StateInCall.{StateInCall}

-- the state as its fields say it
unfoldable pub state_in : StateInCall → State
state_in inner =
    record {
      memory = cells_of inner.memory;
      threads = inner.threads;
      objects = inner.objects;
      heap_pages = inner.heap_pages;
      rest = drop inner.taken inner.input.items;
      output = inner.output.items;
    }

-- a call that came to a reply, and left this
abbrev pub came_to : Reply → StateInCall → Effect
came_to reply inner = record { reply = reply; state = state_in inner }

-- A thread may take its turn. It is one of the threads and ready, and who waits at an object is blocked there.
pub record MayTakeTurn (state : StateInCall) (thread : ℕ) : Type 0 where
  pub made : thread < length state.threads
  pub ready : is_ready (row_of (state_in state) thread).status ≡ true
  pub parked : are_parked state.threads state.objects.waiters ≡ true

-- A turn is over. Who waits at an object is blocked there, and the whole input is as it was.
pub record EndsTurn (old new : StateInCall) : Type 0 where
  pub parked : are_parked new.threads new.objects.waiters ≡ true
  pub input : new.input ≡ old.input

-- A thread may come to wait at an object. It waits at none.
pub record MayComeToWait (state : StateInCall) (thread : ℕ) : Type 0 where
  pub number : thread < limit.threads
  pub idle : is_waiting state.objects thread ≡ false

-- A call came to this reply, and left this. The whole input is as it was.
pub record ComesTo (reply : Reply) (old : StateInCall) (outcome : Effect) (new : StateInCall) : Type 0 where
  pub done : came_to reply new ≡ outcome
  pub input : new.input ≡ old.input

-- A call came to this, or memory ran out and nothing changed. The whole input is as it was.
pub record CarriesOut (result : Result Reply AllocError) (old : StateInCall) (outcome : Effect) (new : StateInCall) : Type 0 where
  pub done : IfOk result (λ reply. came_to reply new ≡ outcome)
  pub kept : OnErr result (state_in new ≡ state_in old)
  pub input : new.input ≡ old.input

-- A thread's turn came to this and is settled in the thread, or memory ran out and nothing changed.
pub record Settles (result : Result Reply AllocError) (old : StateInCall) (thread : ℕ) (outcome : Effect) (new : StateInCall) : Type 0 where
  pub reply : IfOk result (λ reply. reply ≡ outcome.reply)
  pub settled : OnOk result (state_in new ≡ settled thread outcome)
  pub kept : OnErr result (state_in new ≡ state_in old)
  pub ends : EndsTurn old new
