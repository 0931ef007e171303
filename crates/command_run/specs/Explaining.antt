-- How a run ended in words.
use Rattle.std.specs.Prelude.{ℕ, ◌+◌, ◌%◌, ◌^◌, Bool, false, List, [], length, option_map, slice_get}
use Rattle.std.specs.Option.{option_map_or}
use Rattle.explanations.specs.Traps.{trap_line}
use Rattle.explanations.specs.Waits.{lines_before}
use Rattle.explanations.specs.declared.trapped.Trapped.{Trapped}
use Rattle.hart.specs.HartState.{register}
use Rattle.hart.specs.declared.trap.Trap.{Trap as Trapping}
use Rattle.paged_memory.specs.Snapshot.{cells_of}
use Rattle.paged_memory.specs.declared.snapshot.Snapshot.{Snapshot}
use Rattle.runtime.specs.declared.run_end.RunEnd.{RunEnd}
use Rattle.symbols.specs.Symbol.{SymbolLists}
use Rattle.thread_table.specs.declared.thread.Thread.{Thread}
use Rattle.token.specs.declared.outcome.RunOutcome.{RunOutcome}
use Rattle.token.specs.declared.outcome.RunOutcome.TheVariants.{Exit, Finished, Trap, Deadlock}

-- the stack pointer of a thread, 0 if there is no such thread
abbrev pub stack_pointer_of : List Thread → ℕ → ℕ
stack_pointer_of threads thread = option_map_or (λ one. register one.hart 2) (slice_get threads thread) 0

-- whether a byte can be stored to
abbrev pub is_writable : Snapshot → ℕ → Bool
is_writable memory address = option_map_or (λ perm. perm.write) (option_map (λ cell. cell.perm) (cells_of memory address)) false

-- the thread that trapped
abbrev pub trapped_in : RunEnd → ℕ → ℕ → ℕ → Trapping → Trapped
trapped_in end bound thread pc trap =
    record {
      thread = thread;
      pc = pc;
      trap = trap;
      stack_pointer = stack_pointer_of end.threads.items thread;
      is_writable_above = is_writable end.memory ((trap.value + 4096) % 2 ^ 32);
      bound = bound;
    }

-- how a run ended: a line of a trap, or those of the threads that wait; nothing if it ended well
abbrev pub explanation_by : SymbolLists → ℕ → RunEnd → RunOutcome → List ℕ
explanation_by symbols bound end (Trap thread pc trap) = trap_line symbols (trapped_in end bound thread pc trap)
explanation_by symbols bound end Deadlock = lines_before symbols end.threads.items (length end.threads.items)
explanation_by symbols bound end (Exit status) = []
explanation_by symbols bound end (Finished value) = []

abbrev pub explanation_of : SymbolLists → ℕ → RunEnd → List ℕ
explanation_of symbols bound end = explanation_by symbols bound end end.outcome
