-- What each thread waits for that waits.
use Rattle.std.specs.Prelude.{ℕ, zero, suc, Option, Some, None, List, [], ◌++◌, codes, decimal, slice_get}
use Rattle.std.specs.Option.{option_map_or}
use Rattle.abi.specs.declared.call.Call.{Call}
use Rattle.abi.specs.declared.call.Call.TheVariants.{Exit, ThreadExit, Create, Join, Lock, Unlock, Wait, Signal, Broadcast, Barrier, Write, Read, Memory, Sync, Release, Unknown}
use Rattle.ecalls.specs.Request.{call_of}
use Rattle.symbols.specs.Symbol.{SymbolLists}
use Rattle.thread_table.specs.declared.status.Status.{Status}
use Rattle.thread_table.specs.declared.status.Status.TheVariants.{Blocked}
use Rattle.thread_table.specs.declared.thread.Thread.{Thread}
use Rattle.explanations.specs.Places.{end_text}

-- two numbers, each behind a text
unfoldable pub pair_text : (before : List ℕ) → (first : ℕ) → (between : List ℕ) → (second : ℕ) → List ℕ
pair_text before first between second = before ++ decimal first ++ between ++ decimal second

-- what a thread waits for in a call
abbrev pub call_text : Call → List ℕ
call_text (Join thread) = codes " waits for the end of thread " ++ decimal thread
call_text (Wait condition mutex) = pair_text (codes " waits at condition ") condition (codes " for mutex ") mutex
call_text (Barrier barrier count) = pair_text (codes " waits at barrier ") barrier (codes " of ") count
call_text (Exit status) = codes " waits"
call_text (ThreadExit value) = codes " waits"
call_text (Create entry argument stack_pointer) = codes " waits"
call_text (Lock mutex) = codes " waits"
call_text (Unlock mutex) = codes " waits"
call_text (Signal condition) = codes " waits"
call_text (Broadcast condition) = codes " waits"
call_text (Write address length) = codes " waits"
call_text (Read address length) = codes " waits"
call_text (Memory pages) = codes " waits"
call_text Sync = codes " waits"
call_text (Release address pages) = codes " waits"
call_text (Unknown number) = codes " waits"

-- the line of a thread that is blocked
unfoldable pub blocked_text : SymbolLists → ℕ → Thread → List ℕ
blocked_text symbols number thread =
    codes "thread " ++ decimal number ++ call_text (call_of thread.hart) ++ end_text symbols thread.hart.pc

-- a thread that isn't blocked has no line
abbrev pub line_by : SymbolLists → ℕ → Thread → Status → List ℕ
line_by symbols number thread Blocked = blocked_text symbols number thread
line_by symbols number thread other = []

unfoldable pub line_of : SymbolLists → ℕ → Thread → List ℕ
line_of symbols number thread = line_by symbols number thread thread.status

-- the lines of the first threads, so many
unfoldable pub lines_before : SymbolLists → List Thread → ℕ → List ℕ
lines_before symbols threads zero = []
lines_before symbols threads (suc count) =
    lines_before symbols threads count ++ option_map_or (line_of symbols count) (slice_get threads count) []
