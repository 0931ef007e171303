use Rattle.std.proofs.Common.{◌≡◌, ◌++◌, rules}
use Rattle.std.specs.Prelude.{codes}
use Rattle.gdb_packets.proofs.parsing.long_query_of.Goals as goal

pub returns-in-Some-of_text : goal.returns-in-Some-of_text
returns-in-Some-of_text c =
    let parts : c.args.text.now ≡ codes "qThreadExtraInfo," ++ c.in-Some.thread.now = search rules in
    (c.in-Some.thread.now, parts, c.in-Some-of_text.ensures)
