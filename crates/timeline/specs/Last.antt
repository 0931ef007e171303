-- The thread of the last turn.
use Rattle.std.specs.Prelude.{◌≡◌, ℕ}
use Rattle.token.specs.History.{History, thread_of}
use Rattle.token.specs.Point.{Point}
use Rattle.token.specs.Serial.{Invariants, StandsAfter}

-- This thread had the last turn of the legal history after which a run stands; 0 if no turn is done.
pub record IsLast (point : Point) (thread : ℕ) : Type 0 where
  pub history : History
  pub stands : StandsAfter point history
  pub holds : Invariants point
  pub thread_is : thread_of history ≡ thread
