-- The failure that a refused event is, and the status after a replay.
use Rattle.std.specs.Prelude.{ℕ, ◌+◌, Option, Some, None, Result, Ok, Err}
use Rattle.schedule_core.specs.declared.event_fault.EventFault.{EventFault}
use Rattle.schedule_core.specs.declared.event_fault.EventFault.TheVariants as event
use Rattle.token.specs.declared.outcome.RunOutcome.{RunOutcome}
use Rattle.command_requests.specs.Status.{failure_status}
use Rattle.command_requests.specs.declared.failure.Failure.TheVariants.{OutOfMemory}
use Rattle.command_run.specs.Status.{outcome_status}
use Rattle.command_line.specs.declared.replay_failure.ReplayFailure.{ReplayFailure}
use Rattle.command_line.specs.declared.replay_failure.ReplayFailure.TheVariants.{Plain, Refused}

-- the failure that a refused event is, by its place in the list of events: lines are counted from 1
abbrev pub failure_at : ℕ → EventFault → ReplayFailure
failure_at place event.OutOfMemory = Plain OutOfMemory
failure_at place fault = Refused (place + 1) fault

-- the status after a failure: 124 where it is the schedule's
abbrev pub replay_failure_status : ReplayFailure → ℕ
replay_failure_status (Plain failure) = failure_status failure
replay_failure_status other = 124

-- the status after a replay: that of the run's outcome, or 122 where the run hasn't ended
abbrev pub replay_status : Result (Option RunOutcome) ReplayFailure → ℕ
replay_status (Ok (Some outcome)) = outcome_status outcome
replay_status (Ok None) = 122
replay_status (Err failure) = replay_failure_status failure
