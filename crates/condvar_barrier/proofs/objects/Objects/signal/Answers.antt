use Rattle.std.proofs.Common.{rules, not, arith}
use Rattle.std.specs.Prelude.{◌==◌}
use Rattle.arrayvec.proofs.ArrayVecLemmas.{filter-from_retain}
use Rattle.condvar_barrier.specs.Objects.{ObjectState}
use Rattle.condvar_barrier.specs.declared.waiter.Waiter.{Waiter}
use Rattle.condvar_barrier.proofs.Apart.{AreApart-filter}
use Rattle.condvar_barrier.proofs.Waking.{signal-nobody, signal-first}
use Rattle.condvar_barrier.proofs.objects.Objects.signal.Goals as goal

pub returns-in_default : goal.returns-in_default
returns-in_default c = rw c.done.ensures (signal-nobody c.args.self.now c.args.condition (omega arith) c.in_default.ensures)

pub invariant_of-self : goal.invariant_of-self
invariant_of-self c =
    let left = filter-from_retain _ (λ (waiter : Waiter). not (waiter.thread == c.in-Some.woken.thread)) _ (λ x b f y called. search rules) _ _ c.retain.ensures.filtered in
    rw left (AreApart-filter (λ (waiter : Waiter). not (waiter.thread == c.in-Some.woken.thread)) c.self.inside.waiters.items c.self.invariant)

pub returns : goal.returns
returns c =
    let left = filter-from_retain _ (λ (waiter : Waiter). not (waiter.thread == c.in-Some.woken.thread)) _ (λ x b f y called. search rules) _ _ c.retain.ensures.filtered in
    let objects : ObjectState = record { holders = c.self.inside.holders; waiters = c.self.inside.waiters.items } in
    let first = rw (← c.self.view_is) at c.in-Some.ensures in
    rw (c.done-2.ensures, ← c.self.view_is) (signal-first objects c.args.condition (omega arith) c.in-Some.woken c.retain.new.self.items first left)
