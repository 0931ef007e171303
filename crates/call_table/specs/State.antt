-- The state of a run between two turns, whole.
use Rattle.std.specs.Prelude.{ℕ, ◌+◌, ◌*◌, Option, Some, None, unwrap_or, List, [], ◌∷◌, slice_get, slice_set}
use Rattle.guest_memory.specs.Memory.{Memory}
use Rattle.guest_memory.specs.Layout as layout
use Rattle.hart.specs.HartState.{HartState, started_registers}
use Rattle.thread_table.specs.Thread.{blank, started}
use Rattle.thread_table.specs.declared.thread.Thread.{Thread}
use Rattle.condvar_barrier.specs.Objects.{ObjectState, all_free}

-- What stands between two turns: the shared memory, the threads, the objects, how many pages the heap was ever given, what is left
-- of the input, and the output.
pub record State : Type 0 where
  pub memory : Memory
  pub threads : List Thread
  pub objects : ObjectState
  pub heap_pages : ℕ
  pub rest : List ℕ
  pub output : List ℕ

-- a thread's hart at its start
abbrev pub hart_at : ℕ → ℕ → ℕ → ℕ → HartState
hart_at entry stack_pointer argument number = record { registers = started_registers stack_pointer argument number; pc = entry }

-- the state where thread 0 is about to begin at an entry, with these values in x10 and x11, this memory and this input
abbrev pub started_state : (entry x10 x11 : ℕ) → Memory → List ℕ → State
started_state entry x10 x11 memory input =
    record {
      memory = memory;
      threads = started (hart_at entry layout.stack_pointer x10 x11) ∷ [];
      objects = all_free;
      heap_pages = 0;
      rest = input;
      output = [];
    }

-- the address after the pages that the heap was ever given
abbrev pub heap_top : State → ℕ
heap_top state = layout.heap_start + layout.page_size * state.heap_pages

-- what a thread's row has in a state
abbrev pub row_of : State → ℕ → Thread
row_of state thread = unwrap_or (slice_get state.threads thread) blank

-- the threads with one of them replaced by what is made of it, as they were where there is no such thread
abbrev pub with_thread_by : List Thread → ℕ → (Thread → Thread) → Option Thread → List Thread
with_thread_by threads n made None = threads
with_thread_by threads n made (Some thread) = slice_set threads n (made thread)

unfoldable pub with_thread : List Thread → ℕ → (Thread → Thread) → List Thread
with_thread threads n made = with_thread_by threads n made (slice_get threads n)
