-- What a run that began answers, and one for which memory ran out before.
use Rattle.std.proofs.Common.{◌≡◌, ℕ, Option, Result, Ok, Err, List, [], IfErr, refl, subst}
use Rattle.token.proofs.LawfulTurn.{no_changes, no_turns}
use Rattle.token.specs.Legal.{IsLegal}
use Rattle.token.specs.Setup.{Setup}
use Rattle.runtime.specs.Faults.{fault_of, told}
use Rattle.runtime.specs.Recorded.{AnswersRecorded, Ends, EndsOrRecords, RecordsPrefix, RecordsUnended, Recording}
use Rattle.runtime.specs.Run.{IsAccepted, setup_from}
use Rattle.runtime.specs.Sending.{CountsFailures, SendsEnd, SendsPrefix, SendsSoFar}
use Rattle.shuffled_phases.specs.declared.config.Config.{Config}
use Rattle.runtime.specs.declared.interruption.Interruption.{Interruption}
use Rattle.runtime.specs.declared.interruption.Interruption.TheVariants as stop
use Rattle.runtime.specs.declared.run_end.RunEnd.{RunEnd}
use Rattle.runtime.specs.declared.run_fault.RunFault.TheVariants.{OutOfMemory, WriteFailed}
use Rattle.runtime.proofs.Sent.{appends_none}

legal_start : (setup : Setup) → IsLegal setup []
unfolding IsLegal
legal_start setup = tt

-- nothing was recorded of the history without a turn
nothing_recorded : {R : Type 0} → (records : Recording R) (setup : Setup) (recorder : R) → records recorder [] [] → RecordsPrefix records setup recorder
nothing_recorded records setup recorder none = ([], legal_start setup, rw (no_turns, no_changes) none)

-- what a run that began and stopped answers
stopped : {R : Type 0} → (records : Recording R) (writes : Type 0) (elf input : List ℕ) (config : Config) (interruption : Interruption) (recorder : R)
    → IsAccepted elf input config → (interruption ≡ stop.RecordFailed → writes × RecordsUnended records (setup_from elf input config) recorder)
    → RecordsPrefix records (setup_from elf input config) recorder
    → AnswersRecorded records writes elf input config (Err (fault_of interruption)) recorder
stopped records writes elf input config stop.OutOfMemory recorder accepted may recorded = (accepted, λ is. cc, recorded)
stopped records writes elf input config stop.WriteFailed recorder accepted may recorded = (accepted, λ is. cc, recorded)
stopped records writes elf input config stop.RecordFailed recorder accepted may recorded = (accepted, λ is. may refl, recorded)

stopped_sending : (setup : Setup) (interruption : Interruption) (old new : Option (List ℕ)) → SendsPrefix setup old new → SendsEnd setup (Err (fault_of interruption)) old new
stopped_sending setup stop.OutOfMemory old new sent = sent
stopped_sending setup stop.WriteFailed old new sent = sent
stopped_sending setup stop.RecordFailed old new sent = sent

stopped_counting : (interruption : Interruption) (old new : ℕ) → CountsFailures {T = RunEnd} stop.WriteFailed (Err interruption) old new
    → CountsFailures {T = RunEnd} WriteFailed (Err (fault_of interruption)) old new
stopped_counting stop.OutOfMemory old new counts = (λ is. cc, λ other. counts.1 (λ is. cc))
stopped_counting stop.WriteFailed old new counts = (λ is. counts.0 refl, λ other. absurd (other refl))
stopped_counting stop.RecordFailed old new counts = (λ is. cc, λ other. counts.1 (λ is. cc))

-- what a run that began answers
pub began : {R : Type 0} → (records : Recording R) (writes : Type 0) (elf input : List ℕ) (config : Config) (setup : Setup) (came : Result RunEnd Interruption) (recorder : R)
    → IsAccepted elf input config → setup ≡ setup_from elf input config → EndsOrRecords records setup came recorder
    → IfErr came (λ interruption. interruption ≡ stop.RecordFailed → writes × RecordsUnended records setup recorder) → AnswersRecorded records writes elf input config (told came) recorder
began records writes elf input config setup (Ok end) recorder accepted is ends may = (accepted, subst (λ (given : Setup). Ends records given end recorder) is ends)
began records writes elf input config setup (Err interruption) recorder accepted is recorded may =
    stopped records writes elf input config interruption recorder accepted
    (λ failed. let cut = may failed in (cut.0, subst (λ (given : Setup). RecordsUnended records given recorder) is cut.1))
    (subst (λ (given : Setup). RecordsPrefix records given recorder) is recorded)

pub began_sending : (setup wanted : Setup) (came : Result RunEnd Interruption) (old new : Option (List ℕ)) → setup ≡ wanted → SendsSoFar setup came old new
    → SendsEnd wanted (told came) old new
began_sending setup wanted (Ok end) old new is sent = sent
began_sending setup wanted (Err interruption) old new is sent = stopped_sending wanted interruption old new (subst (λ (given : Setup). SendsPrefix given old new) is sent)

pub began_counting : (came : Result RunEnd Interruption) (old new : ℕ) → CountsFailures stop.WriteFailed came old new → CountsFailures WriteFailed (told came) old new
began_counting (Ok end) old new counts = counts
began_counting (Err interruption) old new counts = stopped_counting interruption old new counts

-- memory ran out before a run began
pub unopened : {R : Type 0} → (records : Recording R) (writes : Type 0) (elf input : List ℕ) (config : Config) (recorder : R)
    → IsAccepted elf input config → records recorder [] [] → AnswersRecorded records writes elf input config (Err OutOfMemory) recorder
unopened records writes elf input config recorder accepted none =
    stopped records writes elf input config stop.OutOfMemory recorder accepted (λ is. cc) (nothing_recorded records (setup_from elf input config) recorder none)

pub unopened_sending : (setup : Setup) (known : Option (List ℕ)) → SendsEnd setup (Err OutOfMemory) known known
unopened_sending setup known = ([], legal_start setup, ([], refl, appends_none known))
