-- Where the texts of a run go.
use Rattle.std.specs.Borrow.{Bor}
use Rattle.std.specs.Prelude.{◌≡◌, ℕ, if◌then◌else◌, Option, List, [], nat_eq, codes}
use Rattle.std.specs.Cmp.Lexicographic.{pointwise}
use Rattle.std.specs.Io.KnownBytes.{Appends}
use Rattle.std.specs.List.{AllByRecursion}
use Rattle.output_files.specs.Content.{Content, Holds}
use Rattle.output_files.specs.Names.{part_of}
use Rattle.command_requests.specs.declared.destination.Destination.{Destination}
use Rattle.command_requests.specs.declared.destination.Destination.TheVariants.{StandardOutput, File}
use Rattle.command_requests.specs.declared.target.Target.{Target}
use Rattle.command_requests.specs.declared.target.Target.TheVariants as target

-- the destination that an argument names: standard output is -
abbrev pub destination_of : Bor (List ℕ) → Destination
destination_of argument = if pointwise nat_eq argument.now (codes "-") then StandardOutput else File argument

-- what a text for a destination is written to
abbrev pub target_of : Destination → Target
target_of StandardOutput = target.StandardOutput
target_of (File path) = target.Path path

-- a target is the part of a destination's file
abbrev pub IsPartTargetOf : Destination → Target → Type 0
IsPartTargetOf StandardOutput to = ⊥
IsPartTargetOf (File path) to = to ≡ target.PartOf path

-- what a text adds to standard output
abbrev pub printed_to : Destination → List ℕ → List ℕ
printed_to StandardOutput text = text
printed_to (File path) text = []

-- the file that a text is for holds it
abbrev pub IsFiled : Destination → List ℕ → Content → Type 0
IsFiled StandardOutput text content = Unit {0}
IsFiled (File path) text content = Holds content path.now text

-- this path is that of a destination's file
abbrev pub IsFileOf : Destination → List ℕ → Type 0
IsFileOf StandardOutput path = ⊥
IsFileOf (File file) path = path ≡ file.now

-- this path is that of the part of a destination's file
abbrev pub IsPartFor : Destination → List ℕ → Type 0
IsPartFor StandardOutput path = ⊥
IsPartFor (File file) path = path ≡ part_of file.now

-- this path is neither
abbrev pub IsElsewhere : List ℕ → Destination → Type 0
IsElsewhere path destination = (¬ IsFileOf destination path) × (¬ IsPartFor destination path)

-- it isn't that of the part
abbrev pub IsNoPart : List ℕ → Destination → Type 0
IsNoPart path destination = ¬ IsPartFor destination path

-- The files at all paths are as they were, but those for the first destinations and their parts, and the parts for the second ones.
abbrev pub KeepsBut : (files parts : List Destination) → Content → Content → Type 0
KeepsBut files parts old new =
    (path : List ℕ) → AllByRecursion (IsElsewhere path) files → AllByRecursion (IsNoPart path) parts → new path ≡ old path

-- a text for the second destination leaves the first one's file as it is
abbrev pub IsApart : Destination → Destination → Type 0
IsApart StandardOutput other = Unit {0}
IsApart (File path) other = IsElsewhere path.now other

-- what is told of an output is told where it is to be printed
abbrev pub CanPrint : Type 0 → Destination → Type 0
CanPrint tells StandardOutput = tells
CanPrint tells (File path) = Unit {0}

-- what standard output held is followed by what the text adds to it, where that is told
abbrev pub Prints : Type 0 → Destination → List ℕ → (old new : Option (List ℕ)) → Type 0
Prints tells destination text old new = CanPrint tells destination → Appends old new (printed_to destination text)
