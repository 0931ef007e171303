-- What holds of a checkpoint.
use Rattle.std.specs.Prelude.{◌≡◌, ℕ, ◌+◌, ◌<◌, ◌≤◌, ◌^◌, Option, Some, None, IfSome}
use Rattle.paged_memory.specs.Snapshot.{cells_of}
use Rattle.token.specs.Point.{Point}
use Rattle.token.specs.RunInTurn.{point_of}
use Rattle.timeline.specs.Last.{IsLast}
use Rattle.timeline.specs.Moment.{Origin, beginning, moment_at, origin_at}
use Rattle.timeline.specs.Underway.{Stands}
use Rattle.timeline.specs.declared.checkpoint.Begun.{Begun}
use Rattle.timeline.specs.declared.checkpoint.Checkpoint.{Checkpoint}

-- A turn's segment was executed so far, to this hart and memory.
pub record HasBegun (point : Point) (begun : Begun) : Type 0 where
  pub origin : Origin
  pub needed : origin_at point ≡ Some origin
  pub stands : Stands origin begun.done begun.trap begun.hart (cells_of begun.memory)

abbrev pub MayHaveBegun : Point → Option Begun → Type 0
MayHaveBegun point None = Unit {0}
MayHaveBegun point (Some begun) = HasBegun point begun

abbrev pub steps_of : Option Begun → ℕ
steps_of None = 0
steps_of (Some begun) = begun.done

-- how many steps were made before it
abbrev pub step_at : Checkpoint → ℕ
step_at checkpoint = checkpoint.before + steps_of checkpoint.begun

-- What holds of each.
pub record IsCheckpoint (checkpoint : Checkpoint) : Type 0 where
  pub begun : MayHaveBegun (point_of checkpoint.serial.value) checkpoint.begun
  pub few : step_at checkpoint ≤ 2 ^ 63
  pub quantum : IfSome (point_of checkpoint.serial.value).setup.quantum (λ q. 0 < q)
  pub last : IsLast (point_of checkpoint.serial.value) checkpoint.last

-- It is sound, and stands at a step or before it.
pub record IsAtMost (checkpoint : Checkpoint) (most : ℕ) : Type 0 where
  pub sound : IsCheckpoint checkpoint
  pub step : step_at checkpoint ≤ most

-- Its turn begins after so many steps from a start as it says.
abbrev pub KeepsTurn : Point → Checkpoint → Type 0
KeepsTurn start checkpoint = moment_at start checkpoint.before ≡ Some (beginning (point_of checkpoint.serial.value))

-- It is the first position of a run.
pub record IsFirst (checkpoint : Checkpoint) : Type 0 where
  pub sound : IsCheckpoint checkpoint
  pub at_start : step_at checkpoint ≡ 0
  pub before : checkpoint.before ≡ 0
