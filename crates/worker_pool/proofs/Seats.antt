-- The seats of a phase, and what is left of them.
use Rattle.std.proofs.Common.{◌≡◌, ℕ, zero, suc, List, [], ◌∷◌, drop, refl, arith}
use Rattle.std.specs.Prelude.{All, map}
use Rattle.claim_table.specs.Logs.{new_log}
use Rattle.claim_table.specs.Seat.{Row, SeatState}

-- each seat is of its row
pub all_of_row : (row : Row) (numbers : List ℕ) → All (λ (s : SeatState). s.row ≡ row) (map (λ number. record { row = row; number = number; log = new_log 1 }) numbers)
all_of_row row [] k d within = absurd (omega arith)
all_of_row row (n ∷ ns) zero d within = refl
all_of_row row (n ∷ ns) (suc k) d within = all_of_row row ns k d (omega arith)

-- what is left without the first
pub all_but_first : (P : SeatState → Type 0) (seats : List SeatState) → All P seats → All P (drop 1 seats)
all_but_first P [] all = all
all_but_first P (s ∷ seats) all = λ k d within. all (suc k) d (omega arith)
