-- The files that the arguments of a run name.
use Rattle.std.specs.Borrow.{Bor}
use Rattle.std.specs.Prelude.{◌≡◌, ◌≢◌, ◌⊎◌, ℕ, Bool, true, false, not, ◌&&◌, if◌then◌else◌, Option, List, [], ◌∷◌, ◌++◌, All, Contains, nat_eq, codes, IfSome}
use Rattle.std.specs.Cmp.Lexicographic.{pointwise}
use Rattle.std.specs.List.{starts_with}
use Rattle.output_files.specs.Names.{text_of}
use Rattle.output_files.specs.declared.file_name.FileName.{FileName}
use Rattle.output_files.specs.declared.file_name.FileName.TheVariants.{At, PartOf}
use Rattle.command_requests.specs.declared.destination.Destination.{Destination}
use Rattle.command_requests.specs.declared.destination.Destination.TheVariants.{StandardOutput, File}
use Rattle.command_requests.specs.declared.requested_text.RequestedText.{RequestedText}

-- whether a path is one of those of which each names a file of its own: neither standard output nor below /dev/
abbrev pub counts : List ℕ → Bool
counts path = not (pointwise nat_eq path (codes "-")) && not (starts_with nat_eq path (codes "/dev/"))

-- the names of the file of a destination and of its part, where that file counts
abbrev pub names_in : Destination → List FileName
names_in StandardOutput = []
names_in (File path) = if counts path.now then At path ∷ PartOf path ∷ [] else []

-- the names of the files for some texts, and of their parts
abbrev pub names_for : List RequestedText → List FileName
names_for [] = []
names_for (one ∷ others) = names_in one.destination ++ names_for others

-- the names of the files of a run: of the program, where it counts, of the files for the texts, and of their parts
abbrev pub names_of : Bor (List ℕ) → List RequestedText → List FileName
names_of file wanted = (if counts file.now then At file ∷ [] else []) ++ names_for wanted

-- whether names are of one file, as far as it is known of files at hand
abbrev pub Sameness : Type 0
Sameness = List ℕ → List ℕ → Option Bool

-- two names are of one file, where that is known
abbrev pub AreOne : Sameness → FileName → FileName → Type 0
AreOne is_same one other = IfSome (is_same (text_of one) (text_of other)) (λ same. true ≡ same)

-- two names are not written alike, nor are they of one file, where that is known
abbrev pub AreApart : Sameness → FileName → FileName → Type 0
AreApart is_same one other = (text_of one ≢ text_of other) × IfSome (is_same (text_of one) (text_of other)) (λ same. false ≡ same)

-- a name is apart from each of some others
abbrev pub IsUnlike : Sameness → FileName → List FileName → Type 0
IsUnlike is_same name others = All (AreApart is_same name) others

-- each two of some names are apart
abbrev pub AreUnlike : Sameness → List FileName → Type 0
AreUnlike is_same [] = Unit {0}
AreUnlike is_same (name ∷ others) = IsUnlike is_same name others × AreUnlike is_same others

-- of two names, the first stands before the second among some names
abbrev pub Stand : FileName → FileName → List FileName → Type 0
Stand one other [] = ⊥
Stand one other (name ∷ others) = ((one ≡ name) × Contains others other) ⊎ Stand one other others

-- two of some names are of one file, where that is known
abbrev pub AreTwins : Sameness → FileName → FileName → List FileName → Type 0
AreTwins is_same one other names = Stand one other names × AreOne is_same one other
