-- What a debugging comes to before gdb speaks, told by the files' content as far as it is known, and what ends a session.
use Rattle.std.specs.Borrow.{Bor}
use Rattle.std.specs.Prelude.{◌≡◌, ◌⊎◌, ℕ, Option, Some, None, Result, Ok, Err, List, []}
use Rattle.elf32_reader.specs.Format.{file_limit}
use Rattle.output_files.specs.Content.{Content}
use Rattle.abi.specs.Limits as limit
use Rattle.runtime.specs.Run.{IsAccepted}
use Rattle.shuffled_phases.specs.declared.config.Config.{Config}
use Rattle.command_requests.specs.Reading.{AreRead, IsUnreadAt}
use Rattle.command_requests.specs.Status.{failure_status}
use Rattle.command_requests.specs.declared.failure.Failure.{Failure}
use Rattle.command_requests.specs.declared.failure.Failure.TheVariants.{CannotRead, CannotWrite, OutOfMemory}
use Rattle.command_requests.specs.declared.target.Target.TheVariants.{StandardInput, StandardOutput}
use Rattle.command_run.specs.Serves.{IsRefused}
use Rattle.command_line.specs.declared.debugging.Debugging.{Debugging}

-- the guest's input: the bytes that were read of the file that is named for it, or none
abbrev pub IsInput : Content → Option (Bor (List ℕ)) → List ℕ → Type 0
IsInput files None input = input ≡ []
IsInput files (Some path) input = AreRead limit.input (files path.now) input

-- a file is named for the input, and could not be read
abbrev pub IsInputUnread : Option (Bor (List ℕ)) → Failure → Type 0
IsInputUnread None failure = ⊥
IsInputUnread (Some path) failure = IsUnreadAt path.now failure

-- the program's file and the input were read, and such is their run
abbrev pub AreDebugged : Content → Debugging → (List ℕ → List ℕ → Type 0) → Type 0
AreDebugged files debugging Is =
    (elf : List ℕ) × (input : List ℕ) × AreRead file_limit (files debugging.file.now) elf × IsInput files debugging.input input × Is elf input

-- they were read, and nothing refuses their run
abbrev pub IsDebugged : Content → Debugging → Config → Type 0
IsDebugged files debugging config = AreDebugged files debugging (λ elf input. IsAccepted elf input config)

-- why nothing is debugged: the file or the input's could not be read, or their run is refused
abbrev pub IsUndebugged : Content → Debugging → Config → Failure → Type 0
IsUndebugged files debugging config failure =
    IsUnreadAt debugging.file.now failure ⊎ (IsInputUnread debugging.input failure ⊎ AreDebugged files debugging (λ elf input. IsRefused elf input config failure))

-- why a session was cut off: memory ran out, or gdb could no longer be read or answered
abbrev pub IsCutOff : Failure → Type 0
IsCutOff failure = (failure ≡ OutOfMemory) ⊎ ((failure ≡ CannotRead StandardInput) ⊎ (failure ≡ CannotWrite StandardOutput))

-- the status after a debugging: 0 once gdb or the input ended the session, else that of the failure
abbrev pub debugging_status : {T : Type 0} → Result T Failure → ℕ
debugging_status (Ok done) = 0
debugging_status (Err failure) = failure_status failure
