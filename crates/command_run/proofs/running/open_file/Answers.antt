use Rattle.std.proofs.Common.{ℕ, List, Option, Result, Ok, Err, IfOk}
use Rattle.elf32_reader.specs.Format.{file_limit}
use Rattle.abi.specs.Limits as limit
use Rattle.shuffled_phases.specs.declared.config.Config.{Config}
use Rattle.command_run.specs.declared.opened_run.OpenedRun.{OpenedRun}
use Rattle.command_run.specs.Serves.{AreOpenedFrom, AreRun}
use Rattle.command_requests.specs.Reading.{AreRead}
use Rattle.command_requests.specs.declared.failure.Failure.{Failure}
use Rattle.command_run.proofs.running.open_file.Goals as goal

-- the run of the bytes that were read is the run of the file
opens_file : (content input : Option (List ℕ)) (elf given : List ℕ) (config : Config) (result : Result OpenedRun Failure) → AreRead file_limit content elf
    → AreRead limit.input input given → IfOk result (λ opened. AreOpenedFrom config opened elf given) → IfOk result (λ opened. AreRun content input (AreOpenedFrom config opened))
opens_file content input elf given config (Ok all) file_read input_read opened = (elf, given, file_read, input_read, opened)
opens_file content input elf given config (Err failure) file_read input_read opened = tt

pub returns-clause-opened : goal.returns-clause-opened
returns-clause-opened g c =
    opens_file _ _ c.in-Ok.elf.items c.in-Ok-read_upto.input.items c.args.config.now c.open_all.result c.in-Ok.ensures.bytes c.in-Ok-read_upto.ensures.bytes
    (rw (c.as_slice.ensures.value, c.as_slice-2.ensures.value) at c.open_all.ensures.opened)
