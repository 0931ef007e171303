use Rattle.std.proofs.Common.{◌≡◌}
use Rattle.std.specs.String.{string_bytes}
use Rattle.gdb_shown.specs.Threads.{ids_shown}
use Rattle.gdb_shown.proofs.threads.ids_text.Given as goal

abbrev pub invariant-loop-thread : goal.invariant-loop-thread
invariant-loop-thread l = string_bytes l.text ≡ ids_shown l.thread
