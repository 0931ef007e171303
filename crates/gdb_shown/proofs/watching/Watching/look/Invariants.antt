use Rattle.std.proofs.Common.{◌≡◌, map, take}
use Rattle.timeline.specs.Present.{moment_of}
use Rattle.gdb_shown.specs.Watching.{range_of, seen_by}
use Rattle.gdb_shown.proofs.watching.Watching.look.Given as goal

abbrev pub invariant-loop-seen : goal.invariant-loop-seen
invariant-loop-seen l =
    map range_of l.looks.items ≡ map (seen_by (moment_of l.timeline.present) l.thread) (map range_of (take l.seen-index l.seen-items))
