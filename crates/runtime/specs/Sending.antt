-- What the sink of a run took, where it tells it, and how often it failed.
use Rattle.std.specs.Prelude.{◌≡◌, ◌≢◌, ℕ, ◌+◌, List, Option, Result, Ok, Err, MatchOption}
use Rattle.std.specs.Io.{StartsWith}
use Rattle.std.specs.Io.KnownBytes.{Appends}
use Rattle.token.specs.Setup.{Setup}
use Rattle.token.specs.History.{History, present}
use Rattle.token.specs.Legal.{IsLegal}
use Rattle.runtime.specs.Faults.{refusal_of}
use Rattle.runtime.specs.declared.interruption.Interruption.{Interruption}
use Rattle.runtime.specs.declared.report.Report.{Report}
use Rattle.runtime.specs.declared.run_end.RunEnd.{RunEnd}
use Rattle.runtime.specs.declared.run_fault.RunFault.{RunFault}

-- a prefix of these bytes was taken
abbrev pub AppendsPrefix : List ℕ → Option (List ℕ) → Option (List ℕ) → Type 0
AppendsPrefix bytes old new = (prefix : List ℕ) × StartsWith bytes prefix × Appends old new prefix

-- a prefix of the output of some legal history was taken
abbrev pub SendsPrefix : Setup → Option (List ℕ) → Option (List ℕ) → Type 0
SendsPrefix setup old new = (history : History) × IsLegal setup history × AppendsPrefix (present setup history).output old new

-- What was taken: all of the output where the run was done, nothing where it was refused, and where it stopped a prefix of the output of
-- some legal history.
abbrev pub SendsAs : {T : Type 0} → (T → List ℕ) → Setup → Result T RunFault → Option (List ℕ) → Option (List ℕ) → Type 0
SendsAs output setup (Ok done) old new = Appends old new (output done)
SendsAs output setup (Err fault) old new = MatchOption (refusal_of fault) (SendsPrefix setup old new) (λ refusal. new ≡ old)

-- of a run that is reported
abbrev pub Sends : Setup → Result Report RunFault → Option (List ℕ) → Option (List ℕ) → Type 0
Sends setup result old new = SendsAs (λ (report : Report). report.output.items) setup result old new

-- of a run that is recorded
abbrev pub SendsEnd : Setup → Result RunEnd RunFault → Option (List ℕ) → Option (List ℕ) → Type 0
SendsEnd setup result old new = SendsAs (λ (end : RunEnd). end.output.items) setup result old new

-- of a run that began
abbrev pub SendsSoFar : Setup → Result RunEnd Interruption → Option (List ℕ) → Option (List ℕ) → Type 0
SendsSoFar setup (Ok end) old new = Appends old new end.output.items
SendsSoFar setup (Err interruption) old new = SendsPrefix setup old new

-- the sink failed once where this fault, which tells it, is answered, and else not
abbrev pub CountsFailures : {T E : Type 0} → E → Result T E → ℕ → ℕ → Type 0
CountsFailures told (Ok given) old new = new ≡ old
CountsFailures told (Err fault) old new = (fault ≡ told → new ≡ old + 1) × (fault ≢ told → new ≡ old)

-- all of an output was taken, or a prefix of it where the run stopped
abbrev pub SendsOutput : {T E : Type 0} → Result T E → List ℕ → Option (List ℕ) → Option (List ℕ) → Type 0
SendsOutput (Ok given) output old new = Appends old new output
SendsOutput (Err fault) output old new = AppendsPrefix output old new

-- a sink that had taken all of the output takes what the output is longer by
abbrev pub SendsOn : {T E : Type 0} → Result T E → List ℕ → List ℕ → Option (List ℕ) → Option (List ℕ) → Type 0
SendsOn result before after old new = (start : Option (List ℕ)) → Appends start old before → SendsOutput result after start new
