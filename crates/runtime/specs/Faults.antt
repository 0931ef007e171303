-- The faults of a run by their kind: those that refuse it before it begins, and those that stop it.
use Rattle.std.specs.Prelude.{ℕ, Option, Some, None, Result, Ok, Err}
use Rattle.runtime.specs.declared.interruption.Interruption.{Interruption}
use Rattle.runtime.specs.declared.interruption.Interruption.TheVariants as stop
use Rattle.runtime.specs.declared.refusal.Refusal.{Refusal}
use Rattle.runtime.specs.declared.refusal.Refusal.TheVariants as refused
use Rattle.runtime.specs.declared.run_fault.RunFault.{RunFault}
use Rattle.runtime.specs.declared.run_fault.RunFault.TheVariants.{Elf, BadConfig, InputTooLarge, OutOfMemory, WriteFailed, RecordFailed}
use Rattle.token.specs.declared.turn_fault.TurnFault.{TurnFault}
use Rattle.token.specs.declared.turn_fault.TurnFault.TheVariants as turn

-- the refusal that a fault is; any other stops a run that began
abbrev pub refusal_of : RunFault → Option Refusal
refusal_of (Elf fault) = Some (refused.Elf fault)
refusal_of BadConfig = Some refused.BadConfig
refusal_of InputTooLarge = Some refused.InputTooLarge
refusal_of other = None

-- the fault of a run that was stopped so
abbrev pub fault_of : Interruption → RunFault
fault_of stop.OutOfMemory = OutOfMemory
fault_of stop.WriteFailed = WriteFailed
fault_of stop.RecordFailed = RecordFailed

-- what a run that began answers, its fault being one of the whole run
abbrev pub told : {T : Type 0} → Result T Interruption → Result T RunFault
told (Ok given) = Ok given
told (Err interruption) = Err (fault_of interruption)

-- what stops a run by the fault of its turn
abbrev pub interruption_of : TurnFault → Interruption
interruption_of turn.OutOfMemory = stop.OutOfMemory
interruption_of turn.WriteFailed = stop.RecordFailed

-- the number of a refusal
abbrev pub number_of_refusal : Refusal → ℕ
number_of_refusal (refused.Elf fault) = 1
number_of_refusal refused.BadConfig = 2
number_of_refusal refused.InputTooLarge = 3

-- the number of a fault: first the refusals
abbrev pub number_by : Option Refusal → RunFault → ℕ
number_by (Some refusal) fault = number_of_refusal refusal
number_by None OutOfMemory = 4
number_by None WriteFailed = 5
number_by None other = 6

abbrev pub number_of : RunFault → ℕ
number_of fault = number_by (refusal_of fault) fault
