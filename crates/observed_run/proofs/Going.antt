-- What turns make of a run and of its sink, once its findings are looked for.
use Rattle.std.proofs.Common.{◌≡◌, ◌∙◌, ℕ, List, Option, Some, Result, Ok, Err, IfOk, subst, sym}
use Rattle.std.specs.Prelude.{OnOk}
use Rattle.std.specs.Result.{IsErrAnd}
use Rattle.runtime.specs.Recorded.{IsConcluded}
use Rattle.runtime.specs.Turns.{GoesOn, GoesOnSunk, sunk}
use Rattle.runtime.specs.declared.interruption.Interruption.{Interruption}
use Rattle.runtime.specs.declared.interruption.Interruption.TheVariants.{OutOfMemory}
use Rattle.runtime.specs.declared.run_end.RunEnd.{RunEnd}
use Rattle.runtime.proofs.Prefixes.{appends_prefix}
use Rattle.observed_run.specs.Runs.{ended_in}
use Rattle.token.specs.RunInTurn.{point_of}
use Rattle.token.specs.declared.outcome.RunOutcome.{RunOutcome}
use Rattle.token.specs.declared.run_in_turn.RunInTurn.{RunInTurn}

-- the run has ended, and memory was refused for its findings
pub goes_unfound : {S T : Type 0} (writes : Type 0) (taken : S → Option (List ℕ)) (failed : S → ℕ) (outcome_in : T → Option RunOutcome) (run run' : RunInTurn) (sink sink' : S) (outcome : RunOutcome)
    (answer : Result T Interruption) → IsErrAnd answer (λ interruption. interruption ≡ OutOfMemory)
    → GoesOn writes taken failed Some (Ok outcome) run run' sink sink' → GoesOn writes taken failed outcome_in answer run run' sink sink'
goes_unfound writes taken failed outcome_in run run' sink sink' outcome (Ok found) refused goes = absurd refused
goes_unfound writes taken failed outcome_in run run' sink sink' outcome (Err interruption) refused goes = record {
  setup = goes.setup;
  ended = tt;
  sent = λ start sent. appends_prefix (point_of run').state.output start (taken sink') (goes.sent start sent);
  failures = (λ is. absurd cc, λ other. goes.failures);
  writes_if = λ is. absurd cc;
}

-- how the turns ended, without the findings
pub ended_sunk : {S X : Type 0} (writes : Type 0) (taken : S → Option (List ℕ)) (failed : S → ℕ) (run run' : RunInTurn) (sink sink' : S) (found : Result (RunOutcome × X) Interruption)
    → GoesOn writes taken failed (λ (found : RunOutcome × X). Some found.0) found run run' sink sink'
    → GoesOnSunk writes Some (ended_in found) run run' (sunk taken failed sink) (sunk taken failed sink')
ended_sunk writes taken failed run run' sink sink' (Ok found) goes = record { setup = goes.setup; ended = goes.ended; sent = goes.sent; failures = goes.failures; writes_if = tt }
ended_sunk writes taken failed run run' sink sink' (Err interruption) goes = record { setup = goes.setup; ended = tt; sent = goes.sent; failures = goes.failures; writes_if = goes.writes_if }

-- the findings that were found are those of a run that has an end
pub findings_found : {Findings : Type 0} (Are : Findings → Type 0) (found : Result (RunOutcome × Findings) Interruption) (run : Result RunEnd Interruption) (findings given : Findings)
    → IsConcluded (ended_in found) run → IfOk found (λ found. Are found.1) → IfOk found (λ found. findings ≡ found.1) → OnOk run (given ≡ findings) → IfOk run (λ end. Are given)
findings_found Are (Ok found) (Ok end) findings given concluded are is same = subst Are (sym (same ∙ is)) are
findings_found Are (Err interruption) (Ok end) findings given concluded are is same = absurd cc
findings_found Are found (Err interruption) findings given concluded are is same = tt
