-- Loops that keep what passes a test, and powers of four.
use Rattle.std.proofs.Common.{◌≡◌, ℕ, zero, suc, ◌<◌, ◌≤◌, ◌^◌, Bool, List, length, take, filter, arith, lit<}

-- what a loop has kept of the first numbers of a list
pub record Keeps (test : ℕ → Bool) (list part : List ℕ) (i : ℕ) : Type 0 where
  pub items : part ≡ filter test (take i list)
  pub few : length part ≤ i

pub four_to_few : (k : ℕ) → k < 4 → (0 < 4 ^ k) × (4 ^ k < 2 ^ 64)
four_to_few zero below = (lit< tt, lit< tt)
four_to_few (suc zero) below = (lit< tt, lit< tt)
four_to_few (suc (suc zero)) below = (lit< tt, lit< tt)
four_to_few (suc (suc (suc zero))) below = (lit< tt, lit< tt)
four_to_few (suc (suc (suc (suc k)))) below = absurd (omega arith)
