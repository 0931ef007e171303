use Rattle.std.proofs.Common.{length}
use Rattle.races.specs.Linked.{latest_in, left_of}
use Rattle.races.specs.Words.{StaysElsewhere}
use Rattle.races.proofs.Linked.{IsErasing, IsOf}
use Rattle.races.proofs.page_history.PageHistory.erase.Given as goal

abbrev pub invariant-loop-number : goal.invariant-loop-number
invariant-loop-number l =
    IsOf l.initial.self.entries.items l.place l.number
    × IsErasing l.bytes l.initial.self.entries.items l.self.entries.items l.place l.number
    × StaysElsewhere (latest_in l.initial.self.entries.items) l.place (latest_in l.self.entries.items)

abbrev pub decreases-loop-number : goal.decreases-loop-number
decreases-loop-number l = left_of (length l.initial.self.entries.items) l.number
