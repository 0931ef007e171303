use Rattle.std.proofs.Common.{◌≡◌, take}
use Rattle.gdb_packets.specs.Escapes as escapes
use Rattle.gdb_packets.proofs.framing.escaped.Given as goal

abbrev pub invariant-loop-byte : goal.invariant-loop-byte
invariant-loop-byte l = l.body.items ≡ escapes.escaped (take l.byte-index l.text)
