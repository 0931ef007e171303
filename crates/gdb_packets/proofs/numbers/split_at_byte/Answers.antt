use Rattle.std.proofs.Common.{arith}
use Rattle.gdb_packets.proofs.Parts.{first_there, none_there}
use Rattle.gdb_packets.proofs.numbers.split_at_byte.Goals as goal

pub returns-then-other-byte : goal.returns-then-other-byte
returns-then-other-byte c = first_there c.args.byte c.args.text.now c.loop-place.place c.loop-place.invariant c.loop-place-test.true c.if-other-byte.true

pub returns : goal.returns
returns c = none_there c.args.byte c.args.text.now c.loop-place.place (omega arith) c.loop-place.invariant
