use Rattle.std.proofs.Common.{◌≡◌}
use Rattle.observed_run.specs.Events.{accesses_upto}
use Rattle.observed_run.proofs.ranges.accesses.Given as goal

abbrev pub invariant-loop-step : goal.invariant-loop-step
invariant-loop-step l = l.events.items ≡ accesses_upto l.site l.address l.length l.step
