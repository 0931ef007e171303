use Rattle.std.proofs.Common.{◌≤◌, length, arith}
use Rattle.std.proofs.lemmas.Grind.{common_steps}
use Rattle.gdb_packets.proofs.EscapesEnd.{unescaped_end}
use Rattle.gdb_packets.proofs.framing.unescaped.Goals as goal

pub returns : goal.returns
returns c =
    let behind : length c.args.body.now ≤ c.loop-byte.byte-index = omega arith in
    let end = unescaped_end c.loop-byte.is_escaped c.loop-byte.byte-index c.args.body.now behind in
    let all = rw end at c.loop-byte.invariant in
    grind (arith, common_steps, all)
