use Rattle.std.proofs.Common.{rules}
use Rattle.std.specs.Io.KnownBytes.{Appends}
use Rattle.std.specs.String.{string_bytes}
use Rattle.command_line.proofs.telling.info.Goals as goal

pub returns-in-Ok-clause-printed : goal.returns-in-Ok-clause-printed
returns-in-Ok-clause-printed g c =
    let appends : Appends (g.W.Write.contents c.args.stdout.now) (g.W.Write.contents c.print.new.stdout) (string_bytes c.in_ok-text.text) = search rules in
    let told = c.in_ok-text.ensures in
    (told.0, told.1, rw told.2 at appends)
