use Rattle.std.proofs.Common.{◌≡◌, ◌++◌, map, take}
use Rattle.races.specs.declared.finding.Finding.TheVariants as found
use Rattle.races.proofs.finding_recorder.add_faults.Given as goal

abbrev pub invariant-loop-fault : goal.invariant-loop-fault
invariant-loop-fault l = l.findings.items ≡ l.initial.findings.items ++ map found.Order (take l.fault-index l.faults)
