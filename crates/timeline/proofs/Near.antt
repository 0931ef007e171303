-- A position that is kept near a goal leaves the run as it is.
use Rattle.std.proofs.Common.{◌≡◌, ◌∙◌, ap, subst, sym}
use Rattle.token.specs.Point.{Point}
use Rattle.token.specs.RunInTurn.{point_of}
use Rattle.timeline.specs.Checkpoints as checkpoints
use Rattle.timeline.specs.Checkpoints.{StaySound}
use Rattle.timeline.specs.Line.{KeepsRun, start_of}
use Rattle.timeline.specs.Present.{BeginsAt}
use Rattle.timeline.specs.declared.checkpoint.Checkpoint.{Checkpoint}
use Rattle.timeline.specs.declared.checkpoints.Checkpoints.{Checkpoints}
use Rattle.timeline.specs.declared.line.Line.{Line}
use Rattle.timeline.specs.declared.present.Present.{Present}

same_start : (line : Line) (new : Checkpoints) → StaySound line.checkpoints new → checkpoints.start_of new ≡ start_of line
same_start line new stays = ap (λ (kept : Checkpoint). point_of kept.serial.value) stays.first

pub near_begins : (line : Line) (new : Checkpoints) (present : Present) → StaySound line.checkpoints new → BeginsAt (start_of line) present → BeginsAt (checkpoints.start_of new) present
near_begins line new present stays begins = subst (λ (start : Point). BeginsAt start present) (sym (same_start line new stays)) begins

pub near_kept : (old line : Line) (new : Checkpoints) → KeepsRun old line → StaySound line.checkpoints new → KeepsRun old (record line { checkpoints = new })
near_kept old line new keeps stays =
    record {
      line = record { present = keeps.line.present; begins = near_begins line new line.present stays keeps.line.begins; checkpoints = stays.sound };
      run = same_start line new stays ∙ keeps.run;
    }
