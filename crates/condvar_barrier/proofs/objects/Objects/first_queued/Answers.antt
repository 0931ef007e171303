use Rattle.std.proofs.Common.{◌∙◌, refl}
use Rattle.condvar_barrier.specs.Objects.{queue, queued_at}
use Rattle.condvar_barrier.specs.declared.waiter.Waiter.{Waiter}
use Rattle.condvar_barrier.proofs.Scan.{filter_map-more, take-first_found}
use Rattle.condvar_barrier.proofs.objects.Objects.first_queued.Goals as goal

pub returns-in-Some : goal.returns-in-Some
unfolding queue
returns-in-Some c =
    rw (← c.self.view_is, ← c.as_slice-waiter-items.ensures.value)
    (take-first_found (λ (waiter : Waiter). queued_at c.args.condition waiter.thread waiter.place) c.as_slice-waiter-items.result.now c.loop-waiter.waiter-index _
    c.loop-waiter-test.true c.loop-waiter.invariant c.in-Some.ensures)

pub loop-waiter-preserved : goal.loop-waiter-preserved
loop-waiter-preserved c =
    filter_map-more (λ (waiter : Waiter). queued_at c.args.condition waiter.thread waiter.place) c.as_slice-waiter-items.result.now c.loop-waiter.waiter-index _
    c.loop-waiter-test.true c.in_default.ensures ∙ rw c.loop-waiter.invariant refl
