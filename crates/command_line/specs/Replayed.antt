-- What a schedule's events come to in a run that was opened, and what is printed of it.
use Rattle.std.specs.Prelude.{◌≡◌, ◌⊎◌, ℕ, Option, List, [], length}
use Rattle.std.specs.Io.KnownBytes.{Appends}
use Rattle.schedule.specs.Phase.{begun, opened}
use Rattle.schedule.specs.declared.event.Event.{Event}
use Rattle.schedule_core.specs.Histories.{IsOutcome, IsTheHistory}
use Rattle.schedule_core.specs.Jobs.{jobs_of, start_of}
use Rattle.schedule_core.specs.Tally.{HappenInTurn, IsRefusedAt, Tally}
use Rattle.schedule_core.specs.declared.event_fault.EventFault.{EventFault}
use Rattle.token.specs.History.{History, turns_of}
use Rattle.token.specs.Point.{Point}
use Rattle.token.specs.Serial.{StandsAfter}
use Rattle.token.specs.Setup.{Setup}
use Rattle.token.specs.declared.outcome.RunOutcome.{RunOutcome}
use Rattle.tracer.specs.TraceText.{text_of}
use Rattle.command_requests.specs.declared.failure.Failure.{Failure}
use Rattle.command_requests.specs.declared.failure.Failure.TheVariants.{CannotWrite, OutOfMemory}
use Rattle.command_requests.specs.declared.target.Target.TheVariants.{StandardOutput}
use Rattle.command_line.specs.Status.{failure_at}
use Rattle.command_line.specs.declared.replay_failure.ReplayFailure.{ReplayFailure}
use Rattle.command_line.specs.declared.replay_failure.ReplayFailure.TheVariants.{Plain}

-- A run of this setup for so many workers, of which nothing has happened: it stands after no turn, so each part of the point is the setup's.
pub record IsBeginning (setup : Setup) (workers : ℕ) (point : Point) (tally : Tally) : Type 0 where
  pub setup_is : point.setup ≡ setup
  pub stands : StandsAfter point []
  pub done : point.done ≡ 0
  pub tally_is : tally ≡ record { turns = 0; counts = opened (length (jobs_of (start_of point))) workers; keeper = begun }

-- The turns that were done are those of a legal history of this setup, of which and any other one is a prefix of the other, and this is
-- the text of their trace.
pub record IsTraceAt (setup : Setup) (point : Point) (text : List ℕ) : Type 0 where
  pub setup_is : point.setup ≡ setup
  pub history : History
  pub is : IsTheHistory point history
  pub text_is : text ≡ text_of (turns_of history)

-- the trace of the turns that were done was printed after what standard output held
abbrev pub IsPrinted : Point → (output output' : Option (List ℕ)) → Type 0
IsPrinted point output output' = (text : List ℕ) × IsTraceAt point.setup point text × Appends output output' text

-- why it wasn't: standard output failed, or memory was refused and nothing was printed
abbrev pub IsUnprinted : (output output' : Option (List ℕ)) → Failure → Type 0
IsUnprinted output output' failure = (failure ≡ CannotWrite StandardOutput) ⊎ ((failure ≡ OutOfMemory) × (output' ≡ output))

-- A replay from where nothing has happened to some point, which it comes to so, and this is the trace.
pub record IsReplay (setup : Setup) (workers : ℕ) (Comes : Point → Tally → Point → Tally → Type 0) (text : List ℕ) : Type 0 where
  pub before : Point
  pub old : Tally
  pub after : Point
  pub new : Tally
  pub begins : IsBeginning setup workers before old
  pub comes : Comes before old after new
  pub trace : IsTraceAt setup after text

-- all of the events happen one after another, and the run has ended so or hasn't
abbrev pub IsReplayed : Setup → ℕ → List Event → Option RunOutcome → List ℕ → Type 0
IsReplayed setup workers events ended text = IsReplay setup workers (λ before old after new. HappenInTurn before old events after new × IsOutcome after ended) text

-- the events before a place happen, and the one at it is refused or memory runs out for it
abbrev pub IsReplayedTo : Setup → ℕ → List Event → ℕ → EventFault → List ℕ → Type 0
IsReplayedTo setup workers events place fault text = IsReplay setup workers (λ before old after new. IsRefusedAt before old events place fault after new) text

-- Why not all of the events happened or their trace wasn't printed, and what was printed: an event was refused, and the trace was printed;
-- or it wasn't printed.
abbrev pub IsCut : Setup → ℕ → List Event → (output output' : Option (List ℕ)) → ReplayFailure → Type 0
IsCut setup workers events output output' failure =
    ((place : ℕ) × (fault : EventFault) × (text : List ℕ) × (failure ≡ failure_at place fault) × IsReplayedTo setup workers events place fault text × Appends output output' text)
    ⊎ ((plain : Failure) × (failure ≡ Plain plain) × IsUnprinted output output' plain)
