use Rattle.std.proofs.Common.{rules, arith}
use Rattle.std.specs.Prelude.{is_none}
use Rattle.arrayvec.proofs.ArrayVecLemmas.{filter-from_retain}
use Rattle.condvar_barrier.specs.Objects.{ObjectState, queued_at}
use Rattle.condvar_barrier.specs.declared.waiter.Waiter.{Waiter}
use Rattle.condvar_barrier.proofs.Apart.{AreApart-filter}
use Rattle.condvar_barrier.proofs.Waking.{broadcast-all}
use Rattle.condvar_barrier.proofs.objects.Objects.broadcast.Goals as goal

pub invariant_of-self : goal.invariant_of-self
invariant_of-self c =
    let left = filter-from_retain _ (λ (waiter : Waiter). is_none (queued_at c.args.condition waiter.thread waiter.place)) _ (λ x b f y called. search rules) _ _ c.retain.ensures.filtered in
    rw left (AreApart-filter (λ (waiter : Waiter). is_none (queued_at c.args.condition waiter.thread waiter.place)) c.self.inside.waiters.items c.self.invariant)

pub returns : goal.returns
returns c =
    let left = filter-from_retain _ (λ (waiter : Waiter). is_none (queued_at c.args.condition waiter.thread waiter.place)) _ (λ x b f y called. search rules) _ _ c.retain.ensures.filtered in
    let objects : ObjectState = record { holders = c.self.inside.holders; waiters = c.self.inside.waiters.items } in
    rw (c.done.ensures, c.len.ensures.value, c.queue-woken.ensures, ← c.self.view_is) (broadcast-all objects c.args.condition (omega arith) c.retain.new.self.items c.self.invariant left)
