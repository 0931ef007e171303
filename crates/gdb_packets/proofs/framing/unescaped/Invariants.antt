use Rattle.std.proofs.Common.{◌≡◌, ◌++◌, drop}
use Rattle.gdb_packets.specs.Escapes.{unescaped_by}
use Rattle.gdb_packets.specs.Escapes as escapes
use Rattle.gdb_packets.proofs.framing.unescaped.Given as goal

abbrev pub invariant-loop-byte : goal.invariant-loop-byte
invariant-loop-byte l = l.text.items ++ unescaped_by l.is_escaped (drop l.byte-index l.body) ≡ escapes.unescaped l.body
