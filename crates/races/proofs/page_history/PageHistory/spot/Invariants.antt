use Rattle.std.proofs.Common.{length}
use Rattle.races.specs.Linked.{IsSpot, left_of}
use Rattle.races.proofs.Linked.{IsOf}
use Rattle.races.proofs.page_history.PageHistory.spot.Given as goal

abbrev pub invariant-loop-number : goal.invariant-loop-number
invariant-loop-number l = IsOf l.self.entries.items l.place l.number × IsSpot l.self.firsts.items l.self.entries.items l.place l.number l.own l.spot

abbrev pub decreases-loop-number : goal.decreases-loop-number
decreases-loop-number l = left_of (length l.self.entries.items) l.number
