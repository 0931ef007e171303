use Rattle.std.proofs.Common.{map}
use Rattle.timeline.specs.Present.{moment_of}
use Rattle.gdb_shown.specs.Watching.{range_of, seen_with}
use Rattle.gdb_shown.proofs.Seeing.{AreSeen}
use Rattle.gdb_shown.proofs.watching.Watching.see.Given as goal

abbrev pub invariant-loop-seen : goal.invariant-loop-seen
invariant-loop-seen l =
    AreSeen (seen_with (moment_of l.timeline.present) l.watch l.thread) (map range_of l.initial.seen-items) (map range_of l.seen-items) l.seen-index
