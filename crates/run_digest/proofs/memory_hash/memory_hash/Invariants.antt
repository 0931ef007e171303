use Rattle.paged_memory.specs.Snapshot.{cells_of}
use Rattle.sha2.specs.Hashers.{Holds256}
use Rattle.run_digest.specs.Memories.{message_below}
use Rattle.run_digest.proofs.memory_hash.memory_hash.Given as goal

abbrev pub invariant-loop-number : goal.invariant-loop-number
invariant-loop-number l = Holds256 l.hasher (message_below (cells_of l.memory) l.number)
