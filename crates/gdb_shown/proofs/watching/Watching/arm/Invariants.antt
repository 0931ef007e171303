use Rattle.std.proofs.Common.{◌≡◌, map, take}
use Rattle.timeline.specs.Present.{moment_of}
use Rattle.gdb_shown.specs.Watching.{armed, range_of}
use Rattle.gdb_shown.proofs.watching.Watching.arm.Given as goal

abbrev pub invariant-loop-watch : goal.invariant-loop-watch
invariant-loop-watch l = map range_of l.seen.items ≡ armed (moment_of l.timeline.present) l.before.items (take l.watch-index l.watches) l.thread
