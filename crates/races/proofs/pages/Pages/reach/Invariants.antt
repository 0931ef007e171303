use Rattle.std.proofs.Common.{◌≡◌, ℕ, vec_len}
use Rattle.races.specs.Words.{latest_at}
use Rattle.races.proofs.pages.Pages.reach.Given as goal

abbrev pub invariant-loop-more : goal.invariant-loop-more
invariant-loop-more l = (vec_len l.self.pages ≡ l._more) × ((word : ℕ) → latest_at l.self.pages.items word ≡ latest_at l.initial.self.pages.items word)
