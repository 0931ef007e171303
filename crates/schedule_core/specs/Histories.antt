-- What is said of the history that the turns of a schedule are.
use Rattle.std.specs.Prelude.{◌≡◌, ◌⊎◌, Option, Some, None}
use Rattle.token.specs.History.{History, IsPrefix, outcome}
use Rattle.token.specs.Legal.{Follows, IsLegal}
use Rattle.token.specs.Point.{Point}
use Rattle.token.specs.Serial.{StandsAfter}
use Rattle.token.specs.Turns.{Step}
use Rattle.token.specs.declared.outcome.RunOutcome.{RunOutcome}

-- The run stands after this history, which is legal, and of it and each legal history of the same setup one is a prefix of the other.
pub record IsTheHistory (point : Point) (history : History) : Type 0 where
  pub stands : StandsAfter point history
  pub prefix : (other : History) → IsLegal point.setup other → IsPrefix history other ⊎ IsPrefix other history

-- An outcome is that of the history after which the run stands; there is none exactly while a turn may follow it.
pub record IsOutcome (point : Point) (found : Option RunOutcome) : Type 0 where
  pub history : History
  pub stands : StandsAfter point history
  pub is : outcome point.setup history ≡ found
  pub goes_on : found ≡ None → (step : Step) × Follows point.setup history step
  pub complete : (ends : RunOutcome) → found ≡ Some ends → (step : Step) → Follows point.setup history step → ⊥
