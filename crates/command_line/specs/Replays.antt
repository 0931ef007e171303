-- What a replay of a schedule answers and what it prints, told by the files' content and the standard streams as far as these are known.
use Rattle.std.specs.Prelude.{◌≡◌, ◌⊎◌, ℕ, Option, Result, Ok, Err, List}
use Rattle.std.specs.Io.KnownBytes.{Appends}
use Rattle.output_files.specs.Content.{Content}
use Rattle.runtime.specs.Run.{IsAccepted, setup_from}
use Rattle.shuffled_phases.specs.declared.config.Config.{Config}
use Rattle.schedule.specs.declared.event.Event.{Event}
use Rattle.token.specs.Setup.{Setup}
use Rattle.token.specs.declared.outcome.RunOutcome.{RunOutcome}
use Rattle.command_requests.specs.declared.failure.Failure.{Failure}
use Rattle.command_line.specs.Given.{AreGiven, GivenBytes, IsUngiven}
use Rattle.command_line.specs.Replayed.{IsCut, IsReplayed}
use Rattle.command_line.specs.Scheduled.{AreScheduled, IsUnscheduled}
use Rattle.command_line.specs.declared.replay_failure.ReplayFailure.{ReplayFailure}
use Rattle.command_line.specs.declared.replay_failure.ReplayFailure.TheVariants.{Plain}
use Rattle.command_run.specs.Serves.{IsRefused}

-- a replay that is asked for: of the file and the schedule at two paths, on what there is to read of standard input, with the files' content
pub record ReplayRequest : Type 0 where
  pub files : Content
  pub path : List ℕ
  pub schedule : List ℕ
  pub input : Option (List ℕ)
  pub config : Config

-- such a replay, over these files
abbrev pub asked : {F : Type 0} → (F → Content) → F → List ℕ → List ℕ → Option (List ℕ) → Config → ReplayRequest
asked content files path schedule input config = record { files = content files; path = path; schedule = schedule; input = input; config = config }

-- a setup and some events are those of what a replay is asked for, which nothing refuses
pub record AreOf (request : ReplayRequest) (setup : Setup) (events : List Event) : Type 0 where
  pub given : GivenBytes
  pub read : AreGiven (request.files request.path) request.input given
  pub scheduled : AreScheduled (request.files request.schedule) events
  pub accepted : IsAccepted given.elf given.input request.config
  pub setup_is : setup ≡ setup_from given.elf given.input request.config

-- Why no replay begins, by what is looked at in turn: the file and the input, the schedule, and whether the file is a program.
abbrev pub IsUnopened : ReplayRequest → ReplayFailure → Type 0
IsUnopened request failure =
    ((plain : Failure) × (failure ≡ Plain plain) × IsUngiven request.path request.input plain)
    ⊎ (((given : GivenBytes) × AreGiven (request.files request.path) request.input given × IsUnscheduled request.schedule (request.files request.schedule) failure)
    ⊎ ((given : GivenBytes) × (events : List Event) × (plain : Failure) × AreGiven (request.files request.path) request.input given
    × AreScheduled (request.files request.schedule) events × (failure ≡ Plain plain) × IsRefused given.elf given.input request.config plain))

-- What a replay answers: how the run ended, or that it hasn't, with the trace of all the events' turns after what standard output held. Or it
-- never began and nothing was printed, or it was cut.
abbrev pub Replays : ReplayRequest → (output output' : Option (List ℕ)) → Result (Option RunOutcome) ReplayFailure → Type 0
Replays request output output' (Ok ended) =
    (setup : Setup) × (events : List Event) × (text : List ℕ) × AreOf request setup events × IsReplayed setup request.config.workers events ended text × Appends output output' text
Replays request output output' (Err failure) =
    (IsUnopened request failure × (output' ≡ output))
    ⊎ ((setup : Setup) × (events : List Event) × AreOf request setup events × IsCut setup request.config.workers events output output' failure)
