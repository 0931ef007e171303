use Rattle.timeline.specs.Present.{moment_of}
use Rattle.timeline.specs.Shown.{byte_shown}
use Rattle.gdb_shown.proofs.Bytes.{AreBytes}
use Rattle.gdb_shown.proofs.memory.bytes_seen.Given as goal

abbrev pub invariant-loop-offset : goal.invariant-loop-offset
invariant-loop-offset l = AreBytes (byte_shown (moment_of l.timeline.present) l.thread) l.start l.length l.bytes.items l.offset
