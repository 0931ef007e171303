use Rattle.std.proofs.Common.{append_assoc}
use Rattle.gdb_shown.proofs.threads.write_place.Goals as goal

pub returns-in-Condition : goal.returns-in-Condition
returns-in-Condition c = rw c.in-Condition.is (simp append_assoc c.write.ensures.bytes)
