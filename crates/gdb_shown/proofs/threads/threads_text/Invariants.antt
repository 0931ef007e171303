use Rattle.std.proofs.Common.{◌≡◌, ◌++◌}
use Rattle.std.specs.Prelude.{codes}
use Rattle.std.specs.String.{string_bytes}
use Rattle.timeline.specs.Present.{moment_of}
use Rattle.gdb_shown.specs.Threads.{first_entries}
use Rattle.gdb_shown.proofs.threads.threads_text.Given as goal

abbrev pub invariant-loop-thread : goal.invariant-loop-thread
invariant-loop-thread l = string_bytes l.text ≡ codes "<threads>" ++ first_entries (moment_of l.timeline.present) l.thread
