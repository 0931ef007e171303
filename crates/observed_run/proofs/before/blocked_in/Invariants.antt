use Rattle.std.proofs.Common.{◌≡◌}
use Rattle.std.specs.Prelude.{slice_get}
use Rattle.observed_run.specs.Calls.{has_status, is_blocked, passing}
use Rattle.observed_run.proofs.before.blocked_in.Given as goal

abbrev pub invariant-loop-thread : goal.invariant-loop-thread
invariant-loop-thread l = l.blocked.items ≡ passing (λ number. has_status is_blocked (slice_get l.threads number)) l.thread
