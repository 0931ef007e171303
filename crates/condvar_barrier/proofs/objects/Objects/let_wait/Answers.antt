use Rattle.std.proofs.Common.{◌≡◌, false, rules}
use Rattle.condvar_barrier.specs.Objects.{is_among, is_waiting}
use Rattle.condvar_barrier.proofs.Apart.{AreApart-push, room}
use Rattle.condvar_barrier.proofs.objects.Objects.let_wait.Goals as goal

pub push-requires : goal.push-requires
unfolding is_waiting
push-requires c =
    let idle : is_among c.args.thread c.self.inside.waiters.items ≡ false = rw (← c.self.view_is) at c.requires.idle in
    (search rules, room c.self.inside.waiters.items (record { thread = c.args.thread; place = c.args.place }) c.self.invariant c.requires.number idle)

pub invariant_of-self : goal.invariant_of-self
unfolding is_waiting
invariant_of-self c =
    let idle : is_among c.args.thread c.self.inside.waiters.items ≡ false = rw (← c.self.view_is) at c.requires.idle in
    rw c.push.ensures.items (AreApart-push c.self.inside.waiters.items (record { thread = c.args.thread; place = c.args.place }) c.self.invariant c.requires.number idle)
