use Rattle.std.proofs.Common.{rules}
use Rattle.command_line.proofs.telling.told.Goals as goal

pub returns : goal.returns
returns g c = (c.in-Ok.elf.items, c.in-Ok.ensures.bytes, search rules)
