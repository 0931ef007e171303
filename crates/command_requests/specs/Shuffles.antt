-- The shuffle that a text says: a schedule's number, the phases that it shuffles, and the choices that it leaves to the program.
use Rattle.std.specs.Prelude.{ℕ, ◌+◌, ◌-◌, ◌^◌, ◌==◌, ◌&&◌, nat_le, nat_lt, Bool, if◌then◌else◌, Option, Some, None, List, drop, length, option_map, position}
use Rattle.std.specs.List.{before_first}
use Rattle.std.specs.Str.{all_ascii_digits}
use Rattle.std.specs.Str.Parse.{digits_value}
use Rattle.shuffled_phases.specs.declared.shuffle.Shuffle.{Shuffle}

-- a text up to the first such character, or all of it
abbrev pub before : ℕ → List ℕ → List ℕ
before mark text = before_first (λ byte. byte == mark) text

-- what follows the first such character, if there is one
abbrev pub after : ℕ → List ℕ → Option (List ℕ)
after mark text = option_map (λ place. drop (place + 1) text) (position (λ byte. byte == mark) text)

-- one decimal digit or more, and nothing else
abbrev pub is_numeral : List ℕ → Bool
is_numeral text = nat_lt 0 (length text) && all_ascii_digits text

-- the number of so many bits that a text's digits write, if it is at least so much
abbrev pub number_in : (bits least : ℕ) → List ℕ → Option ℕ
number_in bits least text =
    let number = digits_value 10 text in
    if is_numeral text && nat_lt number (2 ^ bits) && nat_le least number then Some number else None

-- the first and the last phase: A-P, or P for 1-P
abbrev pub phases_by : (first : Option ℕ) → (last : Option ℕ) → Option (ℕ × ℕ)
phases_by (Some first) (Some last) = Some (first, last)
phases_by first last = None

abbrev pub phases_in : (before : List ℕ) → (after : Option (List ℕ)) → Option (ℕ × ℕ)
phases_in last None = phases_by (Some 1) (number_in 64 0 last)
phases_in first (Some last) = phases_by (number_in 64 1 first) (number_in 64 0 last)

-- the phases after the colon, all if there is none
abbrev pub phases_of : Option (List ℕ) → Option (ℕ × ℕ)
phases_of None = Some (1, 2 ^ 64 - 1)
phases_of (Some text) = phases_in (before 45 text) (after 45 text)

-- the choices after the slash, 0 if there is none
abbrev pub choices_of : Option (List ℕ) → Option ℕ
choices_of None = Some 0
choices_of (Some text) = number_in 32 0 text

abbrev pub shuffle_by : (number : Option ℕ) → Option (ℕ × ℕ) → (choices : Option ℕ) → Option Shuffle
shuffle_by (Some number) (Some phases) (Some choices) = Some (record { number = number; first = phases.0; last = phases.1; choices = choices })
shuffle_by number phases choices = None

-- N[:A-P][/C]
abbrev pub shuffle_of : List ℕ → Option Shuffle
shuffle_of text =
    let schedule = before 47 text in
    shuffle_by (number_in 32 1 (before 58 schedule)) (phases_of (after 58 schedule)) (choices_of (after 47 text))
