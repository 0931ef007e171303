use Rattle.std.proofs.Common.{◌≡◌, ◌++◌, take}
use Rattle.std.specs.List.{enumerate_from, flat_map}
use Rattle.std.specs.String.{string_bytes}
use Rattle.trace_events.specs.Ending.{thread_row}
use Rattle.trace_events.proofs.ending.write_rows.Given as goal

abbrev pub invariant-loop-thread : goal.invariant-loop-thread
invariant-loop-thread l = string_bytes l.text ≡ string_bytes l.initial.text ++ flat_map thread_row (take l.thread (enumerate_from 0 l.threads))
