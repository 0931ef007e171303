use Rattle.std.proofs.Common.{append_assoc}
use Rattle.gdb_shown.specs.Description.{entry_of}
use Rattle.gdb_shown.proofs.description.write_entry.Goals as goal

pub returns : goal.returns
unfolding entry_of
returns c = simp append_assoc c.write.ensures.bytes
