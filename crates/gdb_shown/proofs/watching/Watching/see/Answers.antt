use Rattle.std.proofs.Common.{arith}
use Rattle.timeline.specs.Present.{moment_of}
use Rattle.gdb_shown.specs.Watching.{seen_with}
use Rattle.gdb_shown.proofs.Seeing.{one_seen}
use Rattle.gdb_shown.proofs.watching.Watching.see.Goals as goal

pub loop-seen-preserved : goal.loop-seen-preserved
loop-seen-preserved c =
    one_seen (seen_with (moment_of c.args.timeline.now.present) c.args.watch.now c.args.thread) c.deref_mut-seen-items.result.now c.loop-seen.seen-items c.loop-seen.seen-index
    c.seen-item.result c.see_watch.new.self (omega arith) (omega arith) c.loop-seen.invariant c.in_ok-see_watch.ensures
