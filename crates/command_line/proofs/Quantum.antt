-- The quantum of a run that was opened.
use Rattle.std.proofs.Common.{◌≡◌, ℕ, ◌<◌, List, Option, IfSome, sym, subst}
use Rattle.runtime.proofs.Valid.{in_range}
use Rattle.shuffled_phases.specs.declared.config.Config.{Config}
use Rattle.command_run.specs.Serves.{IsOpenedFrom}
use Rattle.token.specs.RunInTurn.{point_of}
use Rattle.token.specs.Setup.{Setup}
use Rattle.token.specs.declared.run_in_turn.RunInTurn.{RunInTurn}

-- it isn't 0
pub not_zero : (config : Config) (start : RunInTurn) (elf input : List ℕ) → IsOpenedFrom config start elf input → IfSome (point_of start).setup.quantum (λ q. 0 < q)
not_zero config start elf input opened =
    subst (λ (setup : Setup). IfSome setup.quantum (λ q. 0 < q)) (sym opened.1) (in_range config opened.0.0.0).some_quantum
