use Rattle.std.proofs.Common.{length}
use Rattle.gdb_packets.specs.Wire.{Keeps, sent_of}
use Rattle.gdb_packets.proofs.Printing.{Printing}
use Rattle.gdb_packets.proofs.wire.Wire.print.Given as goal

abbrev pub invariant-loop-rest : goal.invariant-loop-rest
invariant-loop-rest l = record { printing : Printing (sent_of l.initial.self) l.text l.rest (sent_of l.self); keeps : Keeps l.initial.self l.self }

abbrev pub decreases-loop-rest : goal.decreases-loop-rest
decreases-loop-rest l = length l.rest
