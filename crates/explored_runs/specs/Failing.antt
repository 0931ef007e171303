-- Which runs fail.
use Rattle.std.specs.Prelude.{◌%◌, Bool, true, ◌==◌, not}
use Rattle.token.specs.declared.outcome.RunOutcome.{RunOutcome}
use Rattle.token.specs.declared.outcome.RunOutcome.TheVariants.{Exit, Finished, Trap, Deadlock}

-- whether a run fails that ends so: a status counts by its low 8 bits
abbrev pub fails : RunOutcome → Bool
fails (Exit status) = not (status % 256 == 0)
fails (Finished status) = not (status % 256 == 0)
fails (Trap thread pc trap) = true
fails Deadlock = true
