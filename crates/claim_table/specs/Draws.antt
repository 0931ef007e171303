-- What the two words say of what all seats have done.
use Rattle.std.specs.Prelude.{◌≡◌, ◌≢◌, ℕ, ◌<◌, ◌≤◌, ◌+◌, min, nat_lt}
use Rattle.claim_table.specs.Logs.{Tally, one_if}

-- Word 0 is the number of draws, with or without a number. The numbers drawn are those below the lesser of word 0 and jobs, each
-- once. A seat has ended only where word 0 is at least jobs. Word 1 is the least of jobs and all noted numbers. Each noted number
-- was drawn, and each seen number was noted.
pub record AreDraws (jobs : ℕ) (word0 : ℕ) (word1 : ℕ) (all : Tally) : Type 0 where
  pub counted : all.entries + all.ended ≡ word0
  pub each_once : (number : ℕ) → all.drawn number ≡ one_if (nat_lt number (min word0 jobs))
  pub ended : 0 < all.ended → jobs ≤ word0
  pub at_most : word1 ≤ jobs
  pub is_least : word1 ≢ jobs → 0 < all.noted word1
  pub below_noted : (number : ℕ) → 0 < all.noted number → word1 ≤ number
  pub noted_drawn : (number : ℕ) → 0 < all.noted number → 0 < all.drawn number
  pub seen_noted : (number : ℕ) → 0 < all.seen number → 0 < all.noted number

-- where a seat has ended, each job was drawn, and by one seat once
abbrev pub IsDrawnOut : ℕ → Tally → Type 0
IsDrawnOut jobs all = 0 < all.ended → (number : ℕ) → number < jobs → all.drawn number ≡ 1
