-- The counts among the words of a command line.
use Rattle.std.specs.Prelude.{ℕ, ◌||◌, Bool, true, false, if◌then◌else◌, Option, Some, None, List, [], ◌∷◌, ◌++◌, codes}
use Rattle.command_words.specs.Scales.{after, before, is, scale_of}

-- an option whose value is a number
abbrev pub takes_number : List ℕ → Bool
takes_number word =
    is word (codes "--bound") || (is word (codes "--quantum") || (is word (codes "--turn")
    || (is word (codes "--workers") || (is word (codes "--runs") || is word (codes "--from")))))

-- a number without a scale, and any other text as it is
abbrev pub number_by : List ℕ → Option (List ℕ × List ℕ) → List ℕ
number_by text None = text
number_by text (Some parts) = parts.0 ++ parts.1

unfoldable pub number_text : List ℕ → List ℕ
number_text text = number_by text (scale_of text)

-- an option and its value after a sign
abbrev pub option_text : (name value : List ℕ) → List ℕ
option_text name value = name ++ codes "=" ++ number_text value

-- a word that may be an option with its value after a sign
abbrev pub valued_by : (word name : List ℕ) → (value : Option (List ℕ)) → List ℕ
valued_by word name None = word
valued_by word name (Some value) = if takes_number name then option_text name value else word

unfoldable pub valued_text : List ℕ → List ℕ
valued_text word = valued_by word (before 61 word) (after 61 word)

-- a word, which may be the value of the option before it
abbrev pub word_text : (is_number : Bool) → List ℕ → List ℕ
word_text true word = number_text word
word_text false word = valued_text word

-- words, of which the first may be the value of the option before it
abbrev pub words_from : (is_number : Bool) → List (List ℕ) → List (List ℕ)
words_from is_number [] = []
words_from is_number (word ∷ words) = word_text is_number word ∷ words_from (takes_number word) words

-- all words
abbrev pub with_numbers : List (List ℕ) → List (List ℕ)
with_numbers words = words_from false words
