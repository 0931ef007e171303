-- The plain form of the words of a command line, of which the first is the program's name.
use Rattle.std.specs.Prelude.{ℕ, ◌||◌, if◌then◌else◌, Option, Some, None, List, [], ◌∷◌, codes, slice_get}
use Rattle.command_words.specs.Numbers.{with_numbers}
use Rattle.command_words.specs.Scales.{is}

-- help of the program, or of the command that is named
abbrev pub help_words : (name : List ℕ) → (command : Option (List ℕ)) → List (List ℕ)
help_words name None = name ∷ codes "--help" ∷ []
help_words name (Some command) = name ∷ command ∷ codes "--help" ∷ []

-- the plain form, by the program's name, the word after it and the next one
abbrev pub plain_by : List (List ℕ) → (name first second : Option (List ℕ)) → List (List ℕ)
plain_by words (Some name) (Some first) second =
    if is first (codes "help") then help_words name second
    else if is first (codes "version") || is first (codes "-v") then name ∷ codes "--version" ∷ [] else with_numbers words
plain_by words name first second = with_numbers words

-- `help`, `version` and `-v` as options, and counts without a scale
unfoldable pub plain_words : List (List ℕ) → List (List ℕ)
plain_words words = plain_by words (slice_get words 0) (slice_get words 1) (slice_get words 2)
