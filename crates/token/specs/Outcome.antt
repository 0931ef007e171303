-- How a run ends: by its last turn, or because nobody has a turn.
use Rattle.std.specs.Prelude.{ℕ, Bool, true, false, if◌then◌else◌, Option, Some, None, slice_index}
use Rattle.std.specs.List.{list_all}
use Rattle.abi.specs.Calls.{ends_run}
use Rattle.thread_table.specs.declared.status.Status.{Status}
use Rattle.thread_table.specs.declared.status.Status.TheVariants.{Done}
use Rattle.thread_table.specs.declared.thread.Thread.{Thread}
use Rattle.call_table.specs.State.{State, row_of}
use Rattle.token.specs.declared.outcome.RunOutcome.{RunOutcome}
use Rattle.token.specs.declared.outcome.RunOutcome.TheVariants.{Exit, Finished, Trap as Trapped, Deadlock}
use Rattle.token.specs.declared.turn.TurnStop.{TurnStop}
use Rattle.token.specs.declared.turn.TurnStop.TheVariants.{Call, Trap, Quantum, Wake}

-- the outcome of a turn that ends the run by itself: a trap, or the call exit
abbrev pub outcome_of_stop : ℕ → TurnStop → Option RunOutcome
outcome_of_stop thread (Trap pc trap) = Some (Trapped thread pc trap)
outcome_of_stop thread (Call number arguments reply) = if ends_run number then Some (Exit (slice_index arguments 0)) else None
outcome_of_stop thread (Quantum pc) = None
outcome_of_stop thread (Wake mutex) = None

-- whether a thread is done
abbrev pub is_done : Thread → Bool
is_done thread = is_done_status thread.status
  where
    is_done_status : Status → Bool
    is_done_status (Done value) = true
    is_done_status _ = false

-- the value that a thread is done with
abbrev pub value_of : Status → ℕ
value_of (Done value) = value
value_of _ = 0

-- the outcome where no thread has a turn: finished with thread 0's value where all are done, else a deadlock
abbrev pub quiet_outcome : State → RunOutcome
quiet_outcome state = if list_all is_done state.threads then Finished (value_of (row_of state 0).status) else Deadlock
