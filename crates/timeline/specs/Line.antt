-- What holds of a timeline.
use Rattle.std.specs.Prelude.{◌≡◌, Result, OnErr}
use Rattle.token.specs.Point.{Point}
use Rattle.token.specs.declared.turn_fault.TurnFault.{TurnFault}
use Rattle.timeline.specs.Checkpoints as checkpoints
use Rattle.timeline.specs.Checkpoints.{AreSound}
use Rattle.timeline.specs.Going.{IsRefused}
use Rattle.timeline.specs.Halts.{Wanted}
use Rattle.timeline.specs.Present.{BeginsAt, IsSound}
use Rattle.timeline.specs.declared.line.Line.{Line}

-- where the run begins
abbrev pub start_of : Line → Point
start_of line = checkpoints.start_of line.checkpoints

-- The present position is one of the run, and so is each that is kept.
pub record IsLine (line : Line) : Type 0 where
  pub present : IsSound line.present
  pub begins : BeginsAt (start_of line) line.present
  pub checkpoints : AreSound line.checkpoints

-- They are of one run.
abbrev pub SameRun : Line → Line → Type 0
SameRun old new = start_of new ≡ start_of old

-- It is a timeline of the same run.
pub record KeepsRun (old new : Line) : Type 0 where
  pub line : IsLine new
  pub run : SameRun old new

-- It keeps its run. Where memory is refused it stands further on, with no halt on the way, or at the start of its turn.
pub record MovesOn {A : Type 0} (wanted : Wanted) (old : Line) (result : Result A TurnFault) (new : Line) : Type 0 where
  pub keeps : KeepsRun old new
  pub refused : OnErr result (IsRefused wanted (start_of old) old.present new.present)

-- It keeps its run. Where memory is refused it stands where it stood.
pub record MovesBack {A : Type 0} (old : Line) (result : Result A TurnFault) (new : Line) : Type 0 where
  pub keeps : KeepsRun old new
  pub refused : OnErr result (new.present ≡ old.present)
