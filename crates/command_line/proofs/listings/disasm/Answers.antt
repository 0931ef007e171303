use Rattle.std.proofs.Common.{rules}
use Rattle.std.specs.Io.KnownBytes.{Appends}
use Rattle.std.specs.String.{string_bytes}
use Rattle.command_line.proofs.listings.disasm.Goals as goal

pub returns-in-Ok-clause-printed : goal.returns-in-Ok-clause-printed
returns-in-Ok-clause-printed g c =
    let appends : Appends (g.W.Write.contents c.args.stdout.now) (g.W.Write.contents c.print.new.stdout) (string_bytes c.in_ok-text.text) = search rules in
    let listed = c.in_ok-text.ensures in
    (listed.0, listed.1, listed.2, rw listed.3 at appends)
