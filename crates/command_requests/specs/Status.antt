-- The status after a failure.
use Rattle.std.specs.Prelude.{ℕ, Bool, true, false, if◌then◌else◌}
use Rattle.command_requests.specs.declared.failure.Failure.{Failure}
use Rattle.command_requests.specs.declared.failure.Failure.TheVariants.{NotText, OneFile, InvalidShuffle, BeyondLastNumber, OutsideRange, ElfRefused, OutOfMemory}

-- whether a failure is one of the arguments
abbrev pub is_of_arguments : Failure → Bool
is_of_arguments NotText = true
is_of_arguments (OneFile one twin) = true
is_of_arguments (InvalidShuffle value) = true
is_of_arguments (BeyondLastNumber from runs) = true
is_of_arguments OutsideRange = true
is_of_arguments other = false

-- the status after a failure: 123 for a file that is no program, 125 where memory ran out, 2 for wrong arguments, and else 124
abbrev pub failure_status : Failure → ℕ
failure_status (ElfRefused fault) = 123
failure_status OutOfMemory = 125
failure_status other = if is_of_arguments other then 2 else 124
