-- The last line of an output, made fit for a table.
use Rattle.std.specs.Prelude.{ℕ, ◌==◌, ◌&&◌, nat_le, nat_lt, if◌then◌else◌, List, [], ◌∷◌, ◌++◌, length}

-- a byte if it is printable ASCII, else a dot
abbrev pub shown : ℕ → ℕ
shown byte = if nat_le 32 byte && nat_le byte 126 then byte else 46

-- a line with a byte more, if it has fewer than 40
abbrev pub with_byte : List ℕ → ℕ → List ℕ
with_byte line byte = if nat_lt (length line) 40 then line ++ shown byte ∷ [] else line

-- The last line of an output of which a line so far was read, and that goes on with these bytes. A newline ends a line; another one begins
-- if bytes follow.
abbrev pub last_line_from : List ℕ → List ℕ → List ℕ
last_line_from line [] = line
last_line_from line (byte ∷ rest) =
    if byte == 10 then (if length rest == 0 then line else last_line_from [] rest) else last_line_from (with_byte line byte) rest

abbrev pub last_line : List ℕ → List ℕ
last_line output = last_line_from [] output
