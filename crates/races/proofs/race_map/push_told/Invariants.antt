use Rattle.std.proofs.Common.{◌≡◌, ◌++◌, map, take}
use Rattle.races.specs.Words.{told_at}
use Rattle.races.proofs.race_map.push_told.Given as goal

abbrev pub invariant-loop-race : goal.invariant-loop-race
invariant-loop-race l = l.told.items ≡ l.initial.told.items ++ map (told_at l.word) (take l.race-index l.found)
