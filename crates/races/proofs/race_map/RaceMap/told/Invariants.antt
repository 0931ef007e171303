use Rattle.std.proofs.Common.{◌≡◌, ◌++◌}
use Rattle.races.specs.Words.{told_of}
use Rattle.races.proofs.race_map.RaceMap.told.Given as goal

abbrev pub invariant-loop-number : goal.invariant-loop-number
invariant-loop-number l = l.told.items ++ told_of l.number-iterator ≡ told_of l.self.words.entries
