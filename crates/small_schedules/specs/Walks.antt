-- A walk along a run.
use Rattle.std.specs.Prelude.{◌≡◌, ◌⊎◌, ℕ, ◌+◌, ◌<◌, ◌≤◌, Bool, true, false, IsSome, length}
use Rattle.thread_table.specs.Threads.{serial_list}
use Rattle.token.specs.History.{History, IsNextPhase, outcome}
use Rattle.token.specs.Legal.{IsLegal}
use Rattle.token.specs.Point.{Point}
use Rattle.token.specs.RunInTurn.{point_of}
use Rattle.token.specs.Serial.{StandsAfter}
use Rattle.token.specs.Setup.{Setup}
use Rattle.token.specs.declared.run_in_turn.RunInTurn.{RunInTurn}
use Rattle.small_schedules.specs.Differences.{threads_at}

-- there is a legal history after which a run stands
abbrev pub Stands : RunInTurn → Type 0
Stands run = (history : History) × StandsAfter (point_of run) history

-- A turn more was done if there was one: the run stands in the same phase or in the next. Else it stands where it stood, and has ended.
abbrev pub Goes : Bool → Point → Point → Type 0
Goes true old new = new.phase ≤ old.phase + 1
Goes false old new = (new ≡ old) × IsSome old.ended

-- in some legal history that is in the phase more than one thread has a turn when it begins, or the run has ended
pub record IsShared (setup : Setup) (phase : ℕ) : Type 0 where
  pub history : History
  pub legal : IsLegal setup history
  pub next : IsNextPhase setup history phase
  pub shared : (1 < length (serial_list (threads_at setup history phase))) ⊎ IsSome (outcome setup history)
