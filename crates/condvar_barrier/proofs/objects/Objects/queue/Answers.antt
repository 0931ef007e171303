use Rattle.std.proofs.Common.{sym, append-nil}
use Rattle.condvar_barrier.specs.Objects.{queued_at}
use Rattle.condvar_barrier.specs.declared.waiter.Waiter.{Waiter}
use Rattle.condvar_barrier.proofs.Scan.{Collects-more}
use Rattle.condvar_barrier.proofs.objects.Objects.queue.Goals.{in-Some, in_default}
use Rattle.condvar_barrier.proofs.objects.Objects.queue.Goals as goal

pub loop-waiter-preserved : goal.loop-waiter-preserved
loop-waiter-preserved c =
    let more = Collects-more (λ (waiter : Waiter). queued_at c.args.condition waiter.thread waiter.place) c.as_slice-waiter-items.result.now c.loop-waiter.waiter-index _ c.loop-waiter.queue.items in
    elim c.match-queued_at.branch [
      | in-Some w ↦ more c.match-queued_at.queue.items _ c.loop-waiter-test.true w.in-Some.ensures c.loop-waiter.invariant (rw w.queue-is w.push.ensures.items)
      | in_default w ↦ more c.match-queued_at.queue.items _ c.loop-waiter-test.true w.in_default.ensures c.loop-waiter.invariant (rw w.queue-is (sym (append-nil _)))
    ]
