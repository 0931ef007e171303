use Rattle.std.proofs.Common.{◌≡◌}
use Rattle.condvar_barrier.specs.Objects.{holds_mutex}
use Rattle.observed_run.specs.Calls.{passing}
use Rattle.observed_run.proofs.before.held_by.Given as goal

abbrev pub invariant-loop-mutex : goal.invariant-loop-mutex
invariant-loop-mutex l = l.held.items ≡ passing (holds_mutex l.objects l.thread) l.mutex
