use Rattle.std.proofs.Common.{◌≡◌, false, take}
use Rattle.marked_memory.specs.Marks.{is_marked_by}
use Rattle.marked_memory.proofs.marks.Marks.marks_byte.Given as goal

abbrev pub invariant-loop-breakpoint : goal.invariant-loop-breakpoint
invariant-loop-breakpoint l = is_marked_by (take l.breakpoint-index l.breakpoint-items) l.address ≡ false
