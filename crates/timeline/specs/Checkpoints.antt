-- What holds of the checkpoints of a timeline.
use Rattle.std.specs.Prelude.{◌≡◌, All}
use Rattle.token.specs.Point.{Point}
use Rattle.token.specs.RunInTurn.{point_of}
use Rattle.timeline.specs.Checkpoint.{IsCheckpoint, IsFirst, KeepsTurn}
use Rattle.timeline.specs.Present.{BeginsAt, IsSound}
use Rattle.timeline.specs.declared.checkpoints.Checkpoints.{Checkpoints}
use Rattle.timeline.specs.declared.present.Present.{Present}

-- where the run begins
abbrev pub start_of : Checkpoints → Point
start_of checkpoints = point_of checkpoints.first.serial.value

-- The first one is the run's first position, and each is one of its positions.
pub record AreSound (checkpoints : Checkpoints) : Type 0 where
  pub first : IsFirst checkpoints.first
  pub kept_sound : All (λ kept. IsCheckpoint kept.value) checkpoints.kept.items
  pub kept_turns : All (λ kept. KeepsTurn (start_of checkpoints) kept.value) checkpoints.kept.items
  pub near_sound : All (λ near. IsCheckpoint near.value) checkpoints.near.items
  pub near_turns : All (λ near. KeepsTurn (start_of checkpoints) near.value) checkpoints.near.items

-- They are sound, and a position of their run can be kept.
pub record CanKeep (checkpoints : Checkpoints) (position : Present) : Type 0 where
  pub sound : AreSound checkpoints
  pub present : IsSound position
  pub begins : BeginsAt (start_of checkpoints) position

-- They are sound, and the first one stays.
pub record StaySound (old new : Checkpoints) : Type 0 where
  pub sound : AreSound new
  pub first : new.first ≡ old.first
