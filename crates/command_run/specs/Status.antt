use Rattle.std.specs.Prelude.{ℕ, ◌%◌, List, [], ◌++◌, Result, Ok, Err, codes}
use Rattle.command_requests.specs.Status.{failure_status}
use Rattle.command_requests.specs.declared.failure.Failure.{Failure}
use Rattle.run_digest.specs.Texts.{outcome_text}
use Rattle.token.specs.declared.outcome.RunOutcome.{RunOutcome}
use Rattle.token.specs.declared.outcome.RunOutcome.TheVariants.{Exit, Finished, Trap, Deadlock}

-- the status after a run that ended so: the guest's own, of which a process shows the low byte, or 120 and 121
abbrev pub outcome_status : RunOutcome → ℕ
outcome_status (Exit status) = status % 256
outcome_status (Finished status) = status % 256
outcome_status (Trap _ _ _) = 120
outcome_status Deadlock = 121

-- the line of an outcome on standard error: none after an end of the guest's own
abbrev pub outcome_line : RunOutcome → List ℕ
outcome_line (Exit _) = []
outcome_line (Finished _) = []
outcome_line (Trap thread pc trap) = outcome_text (Trap thread pc trap) ++ codes "\n"
outcome_line Deadlock = outcome_text Deadlock ++ codes "\n"

-- the status after an answer
abbrev pub answer_status : Result RunOutcome Failure → ℕ
answer_status (Ok outcome) = outcome_status outcome
answer_status (Err failure) = failure_status failure
