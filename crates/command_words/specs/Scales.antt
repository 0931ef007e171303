-- Counts with a scale: 10M, 1e6.
use Rattle.std.specs.Prelude.{ℕ, ◌+◌, ◌==◌, ◌&&◌, nat_eq, nat_le, nat_lt, Bool, false, if◌then◌else◌, Option, Some, None, List, [], ◌++◌, codes, drop, length, option_map, position}
use Rattle.std.specs.Cmp.Lexicographic.{pointwise}
use Rattle.std.specs.List.{before_first, list_all}

-- a text is this one
abbrev pub is : List ℕ → List ℕ → Bool
is text other = pointwise nat_eq text other

-- a text up to the first such character, or all of it, and what follows it, if there is one
abbrev pub before : ℕ → List ℕ → List ℕ
before mark text = before_first (λ byte. byte == mark) text

abbrev pub after : ℕ → List ℕ → Option (List ℕ)
after mark text = option_map (λ place. drop (place + 1) text) (position (λ byte. byte == mark) text)

-- one decimal digit or more, and nothing else
abbrev pub is_digit : ℕ → Bool
is_digit byte = nat_le 48 byte && nat_le byte 57

abbrev pub is_numeral : List ℕ → Bool
is_numeral text = nat_lt 0 (length text) && list_all is_digit text

-- a numeral before a mark that ends the text
abbrev pub scaled_by : (digits : List ℕ) → (rest : Option (List ℕ)) → Option (List ℕ)
scaled_by digits None = None
scaled_by digits (Some rest) = if is_numeral digits && length rest == 0 then Some digits else None

abbrev pub scaled : ℕ → List ℕ → Option (List ℕ)
scaled mark text = scaled_by (before mark text) (after mark text)

-- so many zeros, 0 to 12
abbrev pub zeros_by : List ℕ → Option (List ℕ)
zeros_by exponent =
    if is exponent (codes "0") then Some (codes "") else if is exponent (codes "1") then Some (codes "0")
    else if is exponent (codes "2") then Some (codes "00") else if is exponent (codes "3") then Some (codes "000")
    else if is exponent (codes "4") then Some (codes "0000") else if is exponent (codes "5") then Some (codes "00000")
    else if is exponent (codes "6") then Some (codes "000000") else if is exponent (codes "7") then Some (codes "0000000")
    else if is exponent (codes "8") then Some (codes "00000000") else if is exponent (codes "9") then Some (codes "000000000")
    else if is exponent (codes "10") then Some (codes "0000000000") else if is exponent (codes "11") then Some (codes "00000000000")
    else if is exponent (codes "12") then Some (codes "000000000000") else None

-- the digits and the zeros of a count with an exponent
abbrev pub raised_by : (digits : List ℕ) → (zeros : Option (List ℕ)) → Option (List ℕ × List ℕ)
raised_by digits None = None
raised_by digits (Some zeros) = if is_numeral digits then Some (digits, zeros) else None

abbrev pub zeros_after : Option (List ℕ) → Option (List ℕ)
zeros_after None = None
zeros_after (Some exponent) = zeros_by exponent

abbrev pub raised : List ℕ → Option (List ℕ × List ℕ)
raised text = raised_by (before 101 text) (zeros_after (after 101 text))

-- the digits and the zeros of a count, if it has this scale
abbrev pub or_scaled : (digits : Option (List ℕ)) → (zeros : List ℕ) → (other : Option (List ℕ × List ℕ)) → Option (List ℕ × List ℕ)
or_scaled None zeros other = other
or_scaled (Some digits) zeros other = Some (digits, zeros)

-- the digits and the zeros of a count with a scale: K, M and G are the powers of 1,000, and e is followed by how many zeros there are
abbrev pub scale_of : List ℕ → Option (List ℕ × List ℕ)
scale_of text =
    or_scaled (scaled 75 text) (codes "000") (or_scaled (scaled 77 text) (codes "000000") (or_scaled (scaled 71 text) (codes "000000000") (raised text)))
