-- What turns make of a run, told by what its sink took and how often it failed.
use Rattle.std.proofs.Common.{ℕ, Option, List, Result}
use Rattle.token.specs.Setup.{Setup}
use Rattle.token.specs.declared.outcome.RunOutcome.{RunOutcome}
use Rattle.token.specs.declared.run_in_turn.RunInTurn.{RunInTurn}
use Rattle.runtime.specs.Recorded.{ComesTo, Recording}
use Rattle.runtime.specs.Turns.{GoesOn, GoesOnSunk, Sunk, sunk}
use Rattle.runtime.specs.declared.interruption.Interruption.{Interruption}
use Rattle.runtime.specs.declared.recorded_run.RecordedRun.{RecordedRun}

pub as_sunk : {T S : Type 0} (writes : Type 0) (taken : S → Option (List ℕ)) (failed : S → ℕ) (outcome_in : T → Option RunOutcome) (result : Result T Interruption) (run run' : RunInTurn) (sink sink' : S)
    → GoesOn writes taken failed outcome_in result run run' sink sink' → GoesOnSunk writes outcome_in result run run' (sunk taken failed sink) (sunk taken failed sink')
as_sunk writes taken failed outcome_in result run run' sink sink' goes =
    record { setup = goes.setup; ended = goes.ended; sent = goes.sent; failures = goes.failures; writes_if = goes.writes_if }

pub of_sunk : {R S : Type 0} (records : Recording R) (writes : Type 0) (taken : S → Option (List ℕ)) (failed : S → ℕ) (setup : Setup) (run : RecordedRun R Interruption) (sink sink' : S)
    → ComesTo records writes (λ (it : Sunk). it.taken) (λ (it : Sunk). it.failed) setup run (sunk taken failed sink) (sunk taken failed sink')
    → ComesTo records writes taken failed setup run sink sink'
of_sunk records writes taken failed setup run sink sink' comes = record { end = comes.end; writes_if = comes.writes_if; sent = comes.sent; failures = comes.failures }
