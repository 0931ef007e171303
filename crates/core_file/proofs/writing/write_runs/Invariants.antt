use Rattle.std.proofs.Common.{take}
use Rattle.std.specs.Io.KnownBytes.{Appends}
use Rattle.paged_memory.specs.Snapshot.{pages_of}
use Rattle.core_file.specs.Core.{bytes_of}
use Rattle.core_file.specs.Runs.{loads_of}
use Rattle.core_file.proofs.writing.write_runs.Given as goal

abbrev pub invariant-loop-run : goal.invariant-loop-run
invariant-loop-run g l =
    Appends (g.W.Write.contents l.initial.writer) (g.W.Write.contents l.writer) (bytes_of (loads_of (pages_of l.memory) (take l.run-index l.runs)))
