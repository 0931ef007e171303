use Rattle.std.proofs.Common.{◌≡◌, take}
use Rattle.runtime.proofs.reporting.all_of.Given as goal

abbrev pub invariant-loop-number : goal.invariant-loop-number
invariant-loop-number l = l.all.items ≡ take l.number l.threads
