use Rattle.std.proofs.Common.{◌≡◌, List, [], length}
use Rattle.races.specs.Linked.{latest_in, left_of}
use Rattle.races.specs.Steps.{Step}
use Rattle.races.specs.Words.{IsFinding, KnowsLatest, StaysElsewhere, Times, found_at}
use Rattle.races.proofs.Linked.{HasFound, IsOf}
use Rattle.races.proofs.page_history.PageHistory.find_races.Given as goal

abbrev pub invariant-loop-number : goal.invariant-loop-number
invariant-loop-number l =
    IsOf l.self.entries.items l.place l.number
    × ((steps : List Step) → KnowsLatest steps l.access.word (latest_in l.self.entries.items l.place) → Times steps l.clocks → l.step ≡ length steps
    → IsFinding steps l.access l.clocks [] (found_at l.initial.races.words l.access.word) → HasFound steps l.access l.clocks l.self.entries.items l.place l.number (found_at l.races.words l.access.word))
    × StaysElsewhere (found_at l.initial.races.words) l.access.word (found_at l.races.words)

abbrev pub decreases-loop-number : goal.decreases-loop-number
decreases-loop-number l = left_of (length l.self.entries.items) l.number
