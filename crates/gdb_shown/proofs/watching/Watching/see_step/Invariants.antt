use Rattle.std.proofs.Common.{◌≡◌, map, take}
use Rattle.timeline.specs.Present.{moment_of}
use Rattle.gdb_shown.specs.Watching.{after_step, others_of, range_of}
use Rattle.gdb_shown.proofs.Seeing.{AreSeen}
use Rattle.gdb_shown.proofs.watching.Watching.see_step.Given as goal

abbrev pub invariant-loop-seen : goal.invariant-loop-seen
invariant-loop-seen l =
    AreSeen (after_step (moment_of l.timeline.present) l.told l.before) (map range_of l.initial.seen-items) (map range_of l.seen-items) l.seen-index
    × (l.others.items ≡ others_of (moment_of l.timeline.present) l.told l.before (take l.seen-index (map range_of l.initial.seen-items)))
