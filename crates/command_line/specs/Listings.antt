-- What the listing of a file answers and what is printed of it, told by the file's content as far as it is known.
use Rattle.std.specs.Prelude.{◌≡◌, ◌⊎◌, Option, None, Some, Result, Ok, Err, List, ℕ}
use Rattle.std.specs.Io.KnownBytes.{Appends}
use Rattle.disassembler.specs.Listings.{listing_of}
use Rattle.elf32_reader.specs.Segments.{image_of}
use Rattle.elf32_reader.specs.Refusals.{first_refusal}
use Rattle.elf32_reader.specs.Format.{file_limit}
use Rattle.command_requests.specs.Reading.{AreRead, IsUnreadAt}
use Rattle.command_requests.specs.declared.failure.Failure.{Failure}
use Rattle.command_requests.specs.declared.failure.Failure.TheVariants.{ElfRefused, CannotWrite}
use Rattle.command_requests.specs.declared.target.Target.TheVariants.{StandardOutput}

-- What the listing of the file at a path answers: a text whose bytes are that of the image which the file's bytes describe, or
-- their first refusal; or the file couldn't be read.
abbrev pub Lists : {A : Type 0} → (A → List ℕ) → List ℕ → Option (List ℕ) → Result A Failure → Type 0
Lists bytes_of path content (Ok text) =
    (elf : List ℕ) × AreRead file_limit content elf × (first_refusal elf ≡ None) × (bytes_of text ≡ listing_of (image_of elf))
Lists bytes_of path content (Err (ElfRefused fault)) = (elf : List ℕ) × AreRead file_limit content elf × (first_refusal elf ≡ Some fault)
Lists bytes_of path content (Err failure) = IsUnreadAt path failure

-- The listing of the file at a path was put after what standard output held before.
abbrev pub IsListed : Option (List ℕ) → Option (List ℕ) → Option (List ℕ) → Type 0
IsListed content old new =
    (elf : List ℕ) × AreRead file_limit content elf × (first_refusal elf ≡ None) × Appends old new (listing_of (image_of elf))

-- Why there is no listing of the file at a path on standard output: there is none, or it can't be written.
abbrev pub IsUnlisted : List ℕ → Option (List ℕ) → Failure → Type 0
IsUnlisted path content failure = (failure ≡ CannotWrite StandardOutput) ⊎ Lists {A = List ℕ} (λ text. text) path content (Err failure)
