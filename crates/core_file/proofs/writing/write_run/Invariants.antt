use Rattle.std.specs.Io.KnownBytes.{Appends}
use Rattle.paged_memory.specs.Snapshot.{pages_of}
use Rattle.core_file.specs.Runs.{bytes_from}
use Rattle.core_file.proofs.writing.write_run.Given as goal

abbrev pub invariant-loop-place : goal.invariant-loop-place
invariant-loop-place g l = Appends (g.W.Write.contents l.initial.writer) (g.W.Write.contents l.writer) (bytes_from (pages_of l.memory) l.run.first l.place)
