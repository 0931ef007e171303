use Rattle.std.proofs.Common.{◌≡◌, ◌++◌, map, take}
use Rattle.races.specs.declared.finding.Finding.TheVariants as found
use Rattle.races.proofs.finding_recorder.add_misuses.Given as goal

abbrev pub invariant-loop-misuse : goal.invariant-loop-misuse
invariant-loop-misuse l = l.findings.items ≡ l.initial.findings.items ++ map found.Misuse (take l.misuse-index l.misuses)
