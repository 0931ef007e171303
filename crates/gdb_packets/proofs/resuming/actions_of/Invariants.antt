use Rattle.std.proofs.Common.{length}
use Rattle.gdb_packets.proofs.Zips.{AreRead}
use Rattle.gdb_packets.proofs.resuming.actions_of.Given as goal

abbrev pub invariant-loop-part : goal.invariant-loop-part
invariant-loop-part l = AreRead l.text l.rest l.actions.items

abbrev pub decreases-loop-part : goal.decreases-loop-part
decreases-loop-part l = length l.rest
