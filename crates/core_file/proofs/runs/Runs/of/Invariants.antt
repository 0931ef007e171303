use Rattle.paged_memory.specs.Snapshot.{pages_of}
use Rattle.core_file.specs.Runs.{AreRunsBelow}
use Rattle.core_file.proofs.runs.Runs.of.Given as goal

abbrev pub invariant-loop-number : goal.invariant-loop-number
invariant-loop-number l = AreRunsBelow (pages_of l.memory) l.number l.runs.list.items l.runs.pages
