-- The answer of what a run is given: that of some complete history, and of every one.
use Rattle.token.specs.History.{History}
use Rattle.token.specs.Legal.{Follows, IsLegal}
use Rattle.token.specs.Setup.{Setup}
use Rattle.token.specs.Turns.{Step}

-- a history is complete where it is legal and no turn may follow it
pub record IsComplete (setup : Setup) (history : History) : Type 0 where
  pub legal : IsLegal setup history
  pub last : (step : Step) → Follows setup history step → ⊥

-- Some complete history is such, and so is every complete history.
pub record HasAnswer (setup : Setup) (Is : History → Type 0) : Type 0 where
  pub some : (history : History) × IsComplete setup history × Is history
  pub every : (history : History) → IsComplete setup history → Is history
