-- What the faults of a run are to the user.
use Rattle.std.specs.Prelude.{◌≡◌, Option, Some, None}
use Rattle.runtime.specs.declared.interruption.Interruption.{Interruption}
use Rattle.runtime.specs.declared.interruption.Interruption.TheVariants as stop
use Rattle.runtime.specs.declared.open_fault.OpenFault.{OpenFault}
use Rattle.runtime.specs.declared.open_fault.OpenFault.TheVariants as unopened
use Rattle.runtime.specs.declared.refusal.Refusal.{Refusal}
use Rattle.runtime.specs.declared.refusal.Refusal.TheVariants as refused
use Rattle.command_requests.specs.Destination.{target_of}
use Rattle.command_requests.specs.declared.destination.Destination.{Destination}
use Rattle.command_requests.specs.declared.failure.Failure.{Failure}
use Rattle.command_requests.specs.declared.failure.Failure.TheVariants.{OutsideRange, ElfRefused, InputTooLarge, CannotWrite, OutOfMemory}
use Rattle.command_requests.specs.declared.target.Target.TheVariants.{StandardOutput}

-- what a refusal is to the user
abbrev pub failure_of_refusal : Refusal → Failure
failure_of_refusal refused.BadConfig = OutsideRange
failure_of_refusal refused.InputTooLarge = InputTooLarge
failure_of_refusal (refused.Elf fault) = ElfRefused fault

-- what a fault is to the user for which no run was opened
abbrev pub failure_of_fault : OpenFault → Failure
failure_of_fault (unopened.Refused refusal) = failure_of_refusal refusal
failure_of_fault unopened.OutOfMemory = OutOfMemory

-- What stops a run whose recorder writes to this destination, to the user. A recorder that writes nowhere doesn't fail.
abbrev pub IsStoppedBy : Option Destination → Interruption → Failure → Type 0
IsStoppedBy destination stop.OutOfMemory failure = failure ≡ OutOfMemory
IsStoppedBy destination stop.WriteFailed failure = failure ≡ CannotWrite StandardOutput
IsStoppedBy None stop.RecordFailed failure = ⊥
IsStoppedBy (Some destination) stop.RecordFailed failure = failure ≡ CannotWrite (target_of destination)
