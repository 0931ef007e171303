-- What is said of a fault.
use Rattle.std.specs.Prelude.{ℕ}
use Rattle.schedule_text.specs.declared.parse_fault.ParseFault.{ParseFault}
use Rattle.schedule_text.specs.declared.parse_fault.ParseFault.TheVariants.{NotAnEvent, OutOfMemory}

-- where a fault names a line, this holds of its number
abbrev pub IfNotAnEvent : (ℕ → Type 0) → ParseFault → Type 0
IfNotAnEvent Holds (NotAnEvent line) = Holds line
IfNotAnEvent Holds OutOfMemory = Unit {0}
