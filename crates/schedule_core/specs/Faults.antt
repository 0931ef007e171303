-- Why an event is refused.
use Rattle.std.specs.Prelude.{◌≡◌, ℕ, Option, Some, None, Result, Ok, Err, List, codes}
use Rattle.schedule_core.specs.declared.event_fault.EventFault.{EventFault}
use Rattle.schedule_core.specs.declared.event_fault.EventFault.TheVariants.{NoWorker, NotEnabled, Ended, OutOfMemory}

abbrev pub number_of : EventFault → ℕ
number_of NoWorker = 1
number_of NotEnabled = 2
number_of Ended = 3
number_of OutOfMemory = 4

abbrev pub name_of : EventFault → List ℕ
name_of NoWorker = codes "NoWorker"
name_of NotEnabled = codes "NotEnabled"
name_of Ended = codes "Ended"
name_of OutOfMemory = codes "OutOfMemory"

-- An event for which there is this refusal, or none, answers that refusal, or it is done or memory runs out.
abbrev pub IsAnswerTo : Option EventFault → Result (Unit {0}) EventFault → Type 0
IsAnswerTo None (Ok done) = Unit {0}
IsAnswerTo None (Err fault) = fault ≡ OutOfMemory
IsAnswerTo (Some refusal) (Ok done) = ⊥
IsAnswerTo (Some refusal) (Err fault) = fault ≡ refusal
