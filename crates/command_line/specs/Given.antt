-- The bytes of a program's file and the guest's input, or why they weren't read.
use Rattle.std.specs.Prelude.{◌≡◌, ◌⊎◌, ◌<◌, ◌≤◌, ℕ, Option, List, length}
use Rattle.abi.specs.Limits as limit
use Rattle.elf32_reader.specs.Format.{file_limit}
use Rattle.command_requests.specs.Reading.{AreRead, IsUnread}
use Rattle.command_requests.specs.declared.failure.Failure.{Failure}
use Rattle.command_requests.specs.declared.failure.Failure.TheVariants.{InputTooLarge}

-- the bytes of the program's file, and the guest's input
pub record GivenBytes : Type 0 where
  pub elf : List ℕ
  pub input : List ℕ

-- the file and the input were read, and the input is within its limit
pub record AreGiven (content input : Option (List ℕ)) (given : GivenBytes) : Type 0 where
  pub elf_read : AreRead file_limit content given.elf
  pub input_read : AreRead limit.input input given.input
  pub few : length given.input ≤ limit.input

-- why the file and the input weren't read so
abbrev pub IsUngiven : List ℕ → Option (List ℕ) → Failure → Type 0
IsUngiven path input failure =
    IsUnread path failure ⊎ ((failure ≡ InputTooLarge) × ((given : List ℕ) × AreRead limit.input input given × (limit.input < length given)))
