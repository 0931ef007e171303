use Rattle.timeline.specs.Present.{moment_of}
use Rattle.gdb_shown.specs.Memory.{shared_byte}
use Rattle.gdb_shown.proofs.Bytes.{AreBytes}
use Rattle.gdb_shown.proofs.memory.bytes_shared.Given as goal

abbrev pub invariant-loop-offset : goal.invariant-loop-offset
invariant-loop-offset l = AreBytes (shared_byte (moment_of l.timeline.present)) l.start l.length l.bytes.items l.offset
