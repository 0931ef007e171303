-- The escapes of a frame's bytes.
use Rattle.std.specs.Prelude.{ℕ, ◌+◌, ◌-◌, ◌/◌, ◌%◌, ◌==◌, Bool, true, false, if◌then◌else◌, List, [], ◌∷◌}
use Rattle.std.specs.List.{flat_map}

-- a byte with its sixth bit changed
abbrev pub flipped : ℕ → ℕ
flipped byte = if byte / 32 % 2 == 0 then byte + 32 else byte - 32

-- a byte in a frame: # (35), $ (36), * (42) and } (125) stand there behind a }
unfoldable pub escaped_byte : ℕ → List ℕ
escaped_byte byte =
    if byte == 35 then 125 ∷ flipped byte ∷ []
    else if byte == 36 then 125 ∷ flipped byte ∷ []
    else if byte == 42 then 125 ∷ flipped byte ∷ []
    else if byte == 125 then 125 ∷ flipped byte ∷ []
    else byte ∷ []

-- a text as it stands in a frame
abbrev pub escaped : List ℕ → List ℕ
escaped text = flat_map escaped_byte text

-- the text of a frame's bytes, of which the first is escaped or not
unfoldable pub unescaped_by : Bool → List ℕ → List ℕ
unescaped_by is_escaped [] = []
unescaped_by true (byte ∷ bytes) = flipped byte ∷ unescaped_by false bytes
unescaped_by false (byte ∷ bytes) = if byte == 125 then unescaped_by true bytes else byte ∷ unescaped_by false bytes

-- the text of a frame's bytes
abbrev pub unescaped : List ℕ → List ℕ
unescaped bytes = unescaped_by false bytes
