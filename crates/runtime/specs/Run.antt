-- What a run answers.
use Rattle.std.specs.Prelude.{◌≡◌, ◌≢◌, ℕ, ◌<◌, ◌≤◌, true, false, Some, None, Result, Ok, Err, List, [], length, MatchOption}
use Rattle.elf32_reader.specs.LoadImage.{LoadImage}
use Rattle.elf32_reader.specs.Segments.{image_of}
use Rattle.elf32_reader.specs.Refusals.{first_refusal}
use Rattle.token.specs.RunInTurn.{point_of}
use Rattle.token.specs.Setup.{Setup, setup_of}
use Rattle.token.specs.declared.run_in_turn.RunInTurn.{RunInTurn}
use Rattle.shuffled_phases.specs.Config.{is_valid}
use Rattle.abi.specs.Limits as limit
use Rattle.runtime.specs.Faults.{refusal_of}
use Rattle.runtime.specs.Reports.{Reports}
use Rattle.shuffled_phases.specs.declared.config.Config.{Config}
use Rattle.runtime.specs.declared.open_fault.OpenFault.{OpenFault}
use Rattle.runtime.specs.declared.open_fault.OpenFault.TheVariants.{Refused, OutOfMemory}
use Rattle.runtime.specs.declared.refusal.Refusal.{Refusal}
use Rattle.runtime.specs.declared.refusal.Refusal.TheVariants.{BadConfig, InputTooLarge, Elf}
use Rattle.runtime.specs.declared.report.Report.{Report}
use Rattle.runtime.specs.declared.run_fault.RunFault.{RunFault}
use Rattle.runtime.specs.declared.run_fault.RunFault.TheVariants.{RecordFailed}

-- what is looked at ahead of the file is in order
abbrev pub IsRunnable : List ℕ → Config → Type 0
IsRunnable input config = (is_valid config ≡ true) × (length input ≤ limit.input)

-- and nothing refuses the file
abbrev pub IsAccepted : List ℕ → List ℕ → Config → Type 0
IsAccepted elf input config = IsRunnable input config × (first_refusal elf ≡ None)

-- what a run is given: the image of the file, the input, the bound, the quantum, and the schedule's number
abbrev pub setup_from : List ℕ → List ℕ → Config → Setup
setup_from elf input config = setup_of (image_of elf) input config.bound config.quantum config.shuffle

-- why what a run is given is refused: the configuration is looked at first, then the input, then the file
abbrev pub IsRefusedBy : List ℕ → List ℕ → Config → Refusal → Type 0
IsRefusedBy elf input config BadConfig = is_valid config ≡ false
IsRefusedBy elf input config InputTooLarge = (is_valid config ≡ true) × (limit.input < length input)
IsRefusedBy elf input config (Elf fault) = IsRunnable input config × (first_refusal elf ≡ Some fault)

-- Why a run has no end: it is refused. Or nothing refuses it, and it stops.
abbrev pub Refuses : List ℕ → List ℕ → Config → RunFault → Type 0
Refuses elf input config fault = MatchOption (refusal_of fault) (IsAccepted elf input config) (IsRefusedBy elf input config)

-- What a run answers: a report is that of the histories of what it was given. No recorder fails, since none that writes is asked for.
-- Neither the gate nor the number of workers is in it.
abbrev pub Answers : List ℕ → List ℕ → Config → Result Report RunFault → Type 0
Answers elf input config (Ok report) = IsAccepted elf input config × Reports (setup_from elf input config) report
Answers elf input config (Err fault) = Refuses elf input config fault × (fault ≢ RecordFailed)

-- why no run was opened: memory can run out where nothing refuses it
abbrev pub IsUnopenedBy : List ℕ → List ℕ → Config → OpenFault → Type 0
IsUnopenedBy elf input config (Refused refusal) = IsRefusedBy elf input config refusal
IsUnopenedBy elf input config OutOfMemory = IsAccepted elf input config

-- the image of a file where all is in order
abbrev pub Opens : List ℕ → List ℕ → Config → Result LoadImage OpenFault → Type 0
Opens elf input config (Ok image) = IsAccepted elf input config × (image ≡ image_of elf)
Opens elf input config (Err fault) = IsUnopenedBy elf input config fault

-- The run of a file of which no turn is done, where all is in order.
abbrev pub OpensRun : List ℕ → List ℕ → Config → Result RunInTurn OpenFault → Type 0
OpensRun elf input config (Ok start) = IsAccepted elf input config × ((point_of start).setup ≡ setup_from elf input config) × ((point_of start).state.output ≡ []) × ((point_of start).done ≡ 0)
OpensRun elf input config (Err fault) = IsUnopenedBy elf input config fault
