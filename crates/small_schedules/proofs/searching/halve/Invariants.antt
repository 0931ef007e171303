use Rattle.std.proofs.Common.{◌≡◌, ◌⊎◌, ◌<◌, ◌≤◌, ◌-◌, true, false}
use Rattle.small_schedules.specs.Measures as spec
use Rattle.small_schedules.proofs.searching.halve.Given as goal

abbrev pub invariant-loop-high : goal.invariant-loop-high
invariant-loop-high g l = record {
  least : l.least ≤ l.low;
  apart : l.low < l.high;
  most : l.high ≤ l.most;
  fails : g.T.Trial.tells l.trial (spec.set l.measure l.shuffle l.high) true;
  next : (l.low ≡ l.least) ⊎ g.T.Trial.tells l.trial (spec.set l.measure l.shuffle l.low) false;
}

abbrev pub decreases-loop-high : goal.decreases-loop-high
decreases-loop-high g l = l.high - l.low
