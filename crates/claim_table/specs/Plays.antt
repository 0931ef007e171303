-- What each step on the row tells its seat, by the view and the number found.
use Rattle.std.specs.Prelude.{◌≡◌, ℕ, ◌<◌, ◌≤◌, [], length}
use Rattle.atomic_table.specs.Table.{Me}
use Rattle.claim_table.specs.declared.seat_view.SeatView.{SeatView}
use Rattle.claim_table.specs.Logs.{with_drawn, with_end, with_noted, with_seen, times}

-- a number below jobs is drawn, and there is room for it; another one ends the seat
pub record IsDraw {S : Type 0} (old : Me S SeatView) (found : ℕ) (new : Me S SeatView) : Type 0 where
  pub slots : new.1 ≡ old.1
  pub drawn : found < old.0.size.jobs → (new.0 ≡ record old.0 { log = with_drawn old.0.log found }) × (length old.0.log.drawn < old.0.size.jobs)
  pub ended : old.0.size.jobs ≤ found → new.0 ≡ record old.0 { log = with_end old.0.log }

-- the number is noted
pub record IsNote {S : Type 0} (number : ℕ) (old : Me S SeatView) (new : Me S SeatView) : Type 0 where
  pub slots : new.1 ≡ old.1
  pub noted : new.0 ≡ record old.0 { log = with_noted old.0.log number }

-- The number found is at most each number that the seat noted or saw. Below jobs it is seen; else the seat has noted and seen none.
pub record IsLook {S : Type 0} (old : Me S SeatView) (found : ℕ) (new : Me S SeatView) : Type 0 where
  pub slots : new.1 ≡ old.1
  pub noted : (number : ℕ) → 0 < times number old.0.log.noted → found ≤ number
  pub seen : (number : ℕ) → 0 < times number old.0.log.seen → found ≤ number
  pub some : found < old.0.size.jobs → new.0 ≡ record old.0 { log = with_seen old.0.log found }
  pub none : old.0.size.jobs ≤ found → (new.0 ≡ old.0) × (old.0.log.noted ≡ []) × (old.0.log.seen ≡ [])
