use Rattle.std.proofs.Common.{append_assoc}
use Rattle.gdb_shown.specs.Threads.{name_shown}
use Rattle.gdb_shown.proofs.threads.write_name.Goals as goal

pub returns : goal.returns
unfolding name_shown
returns c =
    simp append_assoc at
    (rw (c.in_ok-write.ensures.bytes, c.in_ok-push_str-2.ensures.bytes, c.in_ok-write_id.ensures, c.in_ok-push_str.ensures.bytes) at c.in_ok-push_str-3.ensures.bytes)
