use Rattle.std.proofs.Common.{ℕ, ◌≤◌, ◌<◌}
use Rattle.races.specs.FreedRecording.{IsLiveIn}
use Rattle.races.proofs.freed_live_words.FreedLiveWords.forget.Given as goal

abbrev pub invariant-loop-word : goal.invariant-loop-word
invariant-loop-word l =
    ((other : ℕ) → IsLiveIn l.self.slots.items other → IsLiveIn l.initial.self.slots.items other)
    × ((other : ℕ) → l.first ≤ other → other < l.word → IsLiveIn l.self.slots.items other → ⊥)
