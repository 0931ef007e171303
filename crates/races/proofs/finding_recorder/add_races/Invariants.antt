use Rattle.std.proofs.Common.{◌≡◌, ◌++◌, map, take}
use Rattle.races.specs.declared.finding.Finding.TheVariants as found
use Rattle.races.proofs.finding_recorder.add_races.Given as goal

abbrev pub invariant-loop-race : goal.invariant-loop-race
invariant-loop-race l = l.findings.items ≡ l.initial.findings.items ++ map found.Race (take l.race-index l.races)
