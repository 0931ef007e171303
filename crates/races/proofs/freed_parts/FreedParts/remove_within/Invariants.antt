use Rattle.std.proofs.Common.{◌≡◌, ℕ, ◌<◌, ◌≤◌}
use Rattle.std.specs.BTreeMap.{btree_map_len}
use Rattle.races.specs.FreedParts.{IsTrimmed}
use Rattle.races.proofs.Parted.{IsTrimming}
use Rattle.races.proofs.freed_parts.FreedParts.remove_within.Given as goal

abbrev pub invariant-loop-first : goal.invariant-loop-first
invariant-loop-first l = IsTrimming l.initial.self.parts l.start l.end l.self.parts

abbrev pub decreases-loop-first : goal.decreases-loop-first
decreases-loop-first l = btree_map_len l.self.parts
