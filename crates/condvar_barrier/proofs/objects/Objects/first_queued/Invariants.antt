use Rattle.std.proofs.Common.{◌≡◌, [], take}
use Rattle.std.specs.List.{filter_map}
use Rattle.condvar_barrier.specs.Objects.{queued_at}
use Rattle.condvar_barrier.proofs.objects.Objects.first_queued.Given as goal

abbrev pub invariant-loop-waiter : goal.invariant-loop-waiter
invariant-loop-waiter l = filter_map (λ waiter. queued_at l.condition waiter.thread waiter.place) (take l.waiter-index l.waiter-items) ≡ []
