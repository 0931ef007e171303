-- What a run with a recorder answers.
use Rattle.std.specs.Prelude.{◌≡◌, ◌≤◌, length, ℕ, Some, None, Result, Ok, Err, IfErr, List, [], MatchOption, Option}
use Rattle.abi.specs.Limits as limit
use Rattle.paged_memory.specs.Snapshot.{cells_of}
use Rattle.token.specs.Change.{Change}
use Rattle.token.specs.History.{History, changes_of, outcome, present, turns_of}
use Rattle.token.specs.Legal.{IsLegal}
use Rattle.token.specs.RunInTurn.{point_of}
use Rattle.token.specs.Setup.{Setup}
use Rattle.token.specs.declared.outcome.RunOutcome.{RunOutcome}
use Rattle.token.specs.declared.run_in_turn.RunInTurn.{RunInTurn}
use Rattle.token.specs.declared.turn.Turn.{Turn}
use Rattle.runtime.specs.Answer.{HasAnswer}
use Rattle.runtime.specs.Faults.{refusal_of}
use Rattle.runtime.specs.Run.{IsAccepted, Refuses, setup_from}
use Rattle.runtime.specs.Sending.{CountsFailures, SendsSoFar}
use Rattle.runtime.specs.Turns.{GoesOnSunk, Sunk}
use Rattle.shuffled_phases.specs.declared.config.Config.{Config}
use Rattle.runtime.specs.declared.interruption.Interruption.{Interruption}
use Rattle.runtime.specs.declared.interruption.Interruption.TheVariants as stop
use Rattle.runtime.specs.declared.recorded_run.RecordedRun.{RecordedRun}
use Rattle.runtime.specs.declared.run_end.RunEnd.{RunEnd}
use Rattle.runtime.specs.declared.run_fault.RunFault.{RunFault}
use Rattle.runtime.specs.declared.run_fault.RunFault.TheVariants.{RecordFailed}

-- what a recorder has recorded, as its trait says it
abbrev pub Recording : Type 0 → Type 1
Recording R = R → List Turn → List Change → Type 0

-- The end is that of a history, and a recorder has recorded the history's turns and changes.
pub record IsRecordedEnd {R : Type 0} (records : Recording R) (setup : Setup) (end : RunEnd) (recorder : R) (history : History) : Type 0 where
  pub ends : outcome setup history ≡ Some end.outcome
  pub output : (present setup history).output ≡ end.output.items
  pub memory : (present setup history).memory ≡ cells_of end.memory
  pub threads : (present setup history).threads ≡ end.threads.items
  pub few : length end.threads.items ≤ limit.threads
  pub recorded : records recorder (turns_of history) (changes_of history)

-- There is a complete history whose end it is and that was recorded, and so it is with every complete history.
abbrev pub Ends : {R : Type 0} → Recording R → Setup → RunEnd → R → Type 0
Ends records setup end recorder = HasAnswer setup (IsRecordedEnd records setup end recorder)

-- the turns and the changes of some legal history were recorded
abbrev pub RecordsPrefix : {R : Type 0} → Recording R → Setup → R → Type 0
RecordsPrefix records setup recorder = (history : History) × IsLegal setup history × records recorder (turns_of history) (changes_of history)

-- those of some legal history that goes on
abbrev pub RecordsUnended : {R : Type 0} → Recording R → Setup → R → Type 0
RecordsUnended records setup recorder =
    (history : History) × IsLegal setup history × (outcome setup history ≡ None) × records recorder (turns_of history) (changes_of history)

-- What was recorded where there is no end: nothing where the run was refused, and else the turns of some legal history.
abbrev pub RecordsAt : {R : Type 0} → Recording R → Setup → RunFault → R → Type 0
RecordsAt records setup fault recorder = MatchOption (refusal_of fault) (RecordsPrefix records setup recorder) (λ refusal. records recorder [] [])

-- What a run with a recorder answers: the end of the histories of what it was given, with all of it recorded; or why there is none,
-- with what was recorded before. A record fails only where the recorder writes, and before the run has ended. Neither the gate nor the number of workers is in it.
abbrev pub AnswersRecorded : {R : Type 0} → Recording R → Type 0 → List ℕ → List ℕ → Config → Result RunEnd RunFault → R → Type 0
AnswersRecorded records writes elf input config (Ok end) recorder = IsAccepted elf input config × Ends records (setup_from elf input config) end recorder
AnswersRecorded records writes elf input config (Err fault) recorder =
    Refuses elf input config fault × (fault ≡ RecordFailed → writes × RecordsUnended records (setup_from elf input config) recorder)
    × RecordsAt records (setup_from elf input config) fault recorder

-- of a run that began
abbrev pub EndsOrRecords : {R : Type 0} → Recording R → Setup → Result RunEnd Interruption → R → Type 0
EndsOrRecords records setup (Ok end) recorder = Ends records setup end recorder
EndsOrRecords records setup (Err interruption) recorder = RecordsPrefix records setup recorder

-- What a run that began comes to with a recorder, which may write or not, and with a sink, which tells what it took and how often it failed.
pub record ComesTo {R S : Type 0} (records : Recording R) (writes : Type 0) (taken : S → Option (List ℕ)) (failed : S → ℕ) (setup : Setup)
    (run : RecordedRun R Interruption) (sink sink' : S) : Type 0 where
  pub end : EndsOrRecords records setup run.result run.recorder
  pub writes_if : IfErr run.result (λ interruption. interruption ≡ stop.RecordFailed → writes × RecordsUnended records setup run.recorder)
  pub sent : SendsSoFar setup run.result (taken sink) (taken sink')
  pub failures : CountsFailures stop.WriteFailed run.result (failed sink) (failed sink')

-- what is concluded of turns that ended so: the run's end, unless memory runs out for it; or what interrupted them
abbrev pub IsConcluded : Result RunOutcome Interruption → Result RunEnd Interruption → Type 0
IsConcluded (Ok outcome) (Ok end) = end.outcome ≡ outcome
IsConcluded (Ok outcome) (Err interruption) = interruption ≡ stop.OutOfMemory
IsConcluded (Err interruption) concluded = concluded ≡ Err interruption

-- What a run comes to whose turns ended so, from a start without output on.
abbrev pub IsConclusion : {R : Type 0} → Recording R → (writes : Type 0) → Result RunOutcome Interruption → RunInTurn → RecordedRun R Interruption → Type 0
IsConclusion records writes ended serial run =
    (start : RunInTurn) (before after : Sunk) → (point_of start).state.output ≡ [] → GoesOnSunk writes Some ended start serial before after
    → ComesTo records writes (λ it. it.taken) (λ it. it.failed) (point_of start).setup run before after
