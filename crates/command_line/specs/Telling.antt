-- What is told of a file and printed, by the file's content as far as it is known.
use Rattle.std.specs.Prelude.{◌≡◌, ◌⊎◌, Option, Result, Ok, Err, List, ℕ}
use Rattle.std.specs.Io.KnownBytes.{Appends}
use Rattle.elf32_reader.specs.Format.{file_limit}
use Rattle.elf32_reader.specs.Refusals.{first_refusal}
use Rattle.file_facts.specs.Facts.{facts_of}
use Rattle.command_requests.specs.Reading.{AreRead, IsUnreadAt}
use Rattle.command_requests.specs.declared.failure.Failure.{Failure}
use Rattle.command_requests.specs.declared.failure.Failure.TheVariants.{CannotWrite}
use Rattle.command_requests.specs.declared.target.Target.TheVariants.{StandardOutput}

-- What is told of the file at a path: a text whose bytes are that of the file's bytes and of their first refusal; or the file couldn't be
-- read.
abbrev pub Tells : {A : Type 0} → (A → List ℕ) → List ℕ → Option (List ℕ) → Result A Failure → Type 0
Tells bytes_of path content (Ok text) =
    (elf : List ℕ) × AreRead file_limit content elf × (bytes_of text ≡ facts_of elf (first_refusal elf))
Tells bytes_of path content (Err failure) = IsUnreadAt path failure

-- The text of the file was put after what standard output held before.
abbrev pub IsTold : Option (List ℕ) → Option (List ℕ) → Option (List ℕ) → Type 0
IsTold content old new = (elf : List ℕ) × AreRead file_limit content elf × Appends old new (facts_of elf (first_refusal elf))

-- Why nothing is told of the file at a path: it can't be read, or standard output can't be written.
abbrev pub IsUntold : List ℕ → Failure → Type 0
IsUntold path failure = (failure ≡ CannotWrite StandardOutput) ⊎ IsUnreadAt path failure
