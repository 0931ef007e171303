use Rattle.std.proofs.Common.{◌≡◌, ◌+◌, ◌≤◌, false, rules, length, arith, sym, ◌∙◌}
use Rattle.std.specs.Prelude.{is_none}
use Rattle.arrayvec.proofs.ArrayVecLemmas.{filter-from_retain}
use Rattle.condvar_barrier.specs.Objects.{ObjectState, arrived_at, arrivals, counts_differ, holds}
use Rattle.condvar_barrier.specs.declared.waiter.Waiter.{Waiter}
use Rattle.condvar_barrier.proofs.Apart.{AreApart-filter}
use Rattle.condvar_barrier.proofs.Waking.{barrier-full}
use Rattle.condvar_barrier.proofs.objects.Objects.barrier.Goals as goal

pub invariant_of-self : goal.invariant_of-self
invariant_of-self c =
    let left = filter-from_retain _ (λ (waiter : Waiter). is_none (arrived_at c.args.number waiter.thread waiter.place)) _ (λ x b f y called. search rules) _ _ c.retain.ensures.filtered in
    rw left (AreApart-filter (λ (waiter : Waiter). is_none (arrived_at c.args.number waiter.thread waiter.place)) c.self.inside.waiters.items c.self.invariant)

pub returns : goal.returns
returns c =
    let left = filter-from_retain _ (λ (waiter : Waiter). is_none (arrived_at c.args.number waiter.thread waiter.place)) _ (λ x b f y called. search rules) _ _ c.retain.ensures.filtered in
    let objects : ObjectState = record { holders = c.self.inside.holders; waiters = c.self.inside.waiters.items } in
    let free : holds objects c.args.thread ≡ false = rw (← c.self.view_is) at (sym c.holds.ensures ∙ c.if-holds.false) in
    let alike : counts_differ objects c.args.number c.args.count ≡ false = rw (← c.self.view_is) at (sym c.counts_differ.ensures ∙ c.if-counts_differ.false) in
    let full : c.args.count ≤ length (arrivals objects c.args.number) + 1 = rw (c.len.ensures.value, c.arrived-arrived.ensures, ← c.self.view_is) at c.if-len-count.false in
    rw (c.done.ensures, c.arrived-arrived.ensures, ← c.self.view_is)
    (barrier-full objects c.args.thread c.args.number c.args.count (omega arith) (omega arith) (omega arith) c.retain.new.self.items c.self.invariant left free alike full)
