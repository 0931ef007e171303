use Rattle.condvar_barrier.specs.Objects.{queued_at}
use Rattle.condvar_barrier.specs.declared.waiter.Waiter.{Waiter}
use Rattle.condvar_barrier.proofs.Scan.{Collects}
use Rattle.condvar_barrier.proofs.objects.Objects.queue.Given as goal

abbrev pub invariant-loop-waiter : goal.invariant-loop-waiter
invariant-loop-waiter l = Collects (λ (waiter : Waiter). queued_at l.condition waiter.thread waiter.place) l.waiter-items l.waiter-index l.queue.items
