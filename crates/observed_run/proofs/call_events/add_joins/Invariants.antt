use Rattle.std.proofs.Common.{◌≡◌, ◌++◌, take}
use Rattle.observed_run.specs.Calls.{joins}
use Rattle.observed_run.proofs.call_events.add_joins.Given as goal

abbrev pub invariant-loop-joiner : goal.invariant-loop-joiner
invariant-loop-joiner l = l.events.items ≡ l.fn.events.items ++ joins l.ended.actor (take l.joiner-index l.ended.passed.now)
