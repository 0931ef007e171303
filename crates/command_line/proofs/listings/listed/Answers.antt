use Rattle.std.proofs.Common.{rules}
use Rattle.command_line.proofs.listings.listed.Goals as goal

-- the bytes that were read are those that the reader saw
pub returns-in-Err-read : goal.returns-in-Err-read
returns-in-Err-read g c = (c.in-Ok.elf.items, c.in-Ok.ensures.bytes, search rules)

pub returns-in-Ok-listing : goal.returns-in-Ok-listing
returns-in-Ok-listing g c = (c.in-Ok.elf.items, c.in-Ok.ensures.bytes, search rules, search rules)
