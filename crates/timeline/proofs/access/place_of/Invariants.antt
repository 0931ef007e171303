use Rattle.std.proofs.Common.{◌≡◌, drop}
use Rattle.timeline.specs.Halts.{first_from, first_place, is_seen}
use Rattle.timeline.proofs.access.place_of.Given as goal

abbrev pub invariant-loop-place : goal.invariant-loop-place
invariant-loop-place l = first_from (is_seen l.access) l.place (drop l.place l.watches) ≡ first_place (is_seen l.access) l.watches
