use Rattle.condvar_barrier.specs.Objects.{arrived_at}
use Rattle.condvar_barrier.specs.declared.waiter.Waiter.{Waiter}
use Rattle.condvar_barrier.proofs.Scan.{Collects}
use Rattle.condvar_barrier.proofs.objects.Objects.arrived.Given as goal

abbrev pub invariant-loop-waiter : goal.invariant-loop-waiter
invariant-loop-waiter l = Collects (λ (waiter : Waiter). arrived_at l.barrier waiter.thread waiter.place) l.waiter-items l.waiter-index l.arrived.items
