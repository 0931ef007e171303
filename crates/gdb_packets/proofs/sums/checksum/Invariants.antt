use Rattle.std.proofs.Common.{◌≡◌, take}
use Rattle.gdb_packets.specs.Frames.{checksum_of}
use Rattle.gdb_packets.proofs.sums.checksum.Given as goal

abbrev pub invariant-loop-byte : goal.invariant-loop-byte
invariant-loop-byte l = l.sum ≡ checksum_of (take l.byte-index l.bytes)
