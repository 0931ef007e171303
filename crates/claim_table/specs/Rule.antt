-- The rule of the row of two words: what holds of them and of what all seats know, between any two steps.
use Rattle.std.specs.Prelude.{◌≡◌, ℕ, ◌<◌, ◌≤◌, List, [], ◌∷◌}
use mathlib.Core.Option.{some}
use lib.ListN.{get_elem?}
use Rattle.atomic_table.specs.Table.{State}
use Rattle.claim_table.specs.declared.log.Log.{Log}
use Rattle.claim_table.specs.declared.size.Size.{Size}
use Rattle.claim_table.specs.declared.seat_view.SeatView.{SeatView}
use Rattle.claim_table.specs.Logs.{most_jobs, most_seats, total, tally, new_log}
use Rattle.claim_table.specs.Draws.{AreDraws}

abbrev pub logs : List SeatView → List Log
logs [] = []
logs (view ∷ views) = view.log ∷ logs views

-- A view is of a row of this size, unless its log is that of no seat, and then it is empty. No more seats have ended than it is the
-- log of.
pub record IsPart (size : Size) (view : SeatView) : Type 0 where
  pub size_is : 0 < view.log.seats → view.size ≡ size
  pub ended : view.log.ended ≤ view.log.seats
  pub idle : view.log.seats ≡ 0 → view.log ≡ new_log 0

pub record IsKept {S : Type 0} (size : Size) (state : State S SeatView) : Type 0 where
  pub word0 : ℕ
  pub word1 : ℕ
  pub words : state.words ≡ word0 ∷ word1 ∷ []
  pub draws : AreDraws size.jobs word0 word1 (tally (logs state.views))
  pub room : (tally (logs state.views)).entries ≤ size.jobs
  pub whole : total (λ log. log.seats) (logs state.views) ≡ size.seats
  pub fits : (size.jobs ≤ most_jobs) × (size.seats ≤ most_seats)
  pub parts : (place : ℕ) (view : SeatView) → get_elem? state.views place ≡ some view → IsPart size view
