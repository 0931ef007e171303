use Rattle.std.proofs.Common.{◌≡◌, ◌++◌, map, take}
use Rattle.races.specs.declared.finding.Finding.TheVariants as found
use Rattle.races.proofs.finding_recorder.add_freed.Given as goal

abbrev pub invariant-loop-access : goal.invariant-loop-access
invariant-loop-access l = l.findings.items ≡ l.initial.findings.items ++ map found.Freed (take l.access-index l.freed)
