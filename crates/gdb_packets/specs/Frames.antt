-- Frames: what stands between $ and #, and its checksum.
use Rattle.std.specs.Prelude.{◌≡◌, ◌⊎◌, ℕ, ◌%◌, ◌/◌, ◌==◌, if◌then◌else◌, sum, List, [], ◌∷◌, ◌++◌}
use Rattle.std.specs.Char.{digit_value}
use Rattle.text_output.specs.Digits.{hexadecimal}
use Rattle.gdb_packets.specs.Escapes.{escaped}
use Rattle.gdb_packets.specs.declared.deframer.Heard.{Heard}
use Rattle.gdb_packets.specs.declared.deframer.Heard.TheVariants.{Acknowledged, Interrupt, Nothing, Refused}
use Rattle.gdb_packets.specs.declared.deframer.FramePart.{FramePart}
use Rattle.gdb_packets.specs.declared.deframer.FramePart.TheVariants.{Outside, Body, Sharp, Digit}

-- by which a frame is checked
abbrev pub checksum_of : List ℕ → ℕ
checksum_of bytes = sum bytes % 256

-- the frame of a text: $ (36), the text escaped, # (35) and two digits
abbrev pub frame_of : List ℕ → List ℕ
frame_of text = 36 ∷ (escaped text ++ 35 ∷ hexadecimal 2 (checksum_of (escaped text)))

-- These two digits, in either case, are a body's checksum.
pub record IsSum (body : List ℕ) (first second : ℕ) : Type 0 where
  pub high : digit_value first ≡ checksum_of body / 16
  pub low : digit_value second ≡ checksum_of body % 16

-- These bytes are the frame of this body, with its right checksum.
pub record IsFrame (bytes body : List ℕ) : Type 0 where
  pub first : ℕ
  pub second : ℕ
  pub parts : bytes ≡ 36 ∷ (body ++ 35 ∷ first ∷ second ∷ [])
  pub sum : IsSum body first second

-- These bytes are a frame of this body with a wrong checksum.
pub record IsSpoiled (bytes body : List ℕ) : Type 0 where
  pub first : ℕ
  pub second : ℕ
  pub parts : bytes ≡ 36 ∷ (body ++ 35 ∷ first ∷ second ∷ [])
  pub sum : IsSum body first second → ⊥

-- the bytes of a frame that was begun: none outside of a frame
abbrev pub bytes_begun : (body : List ℕ) → FramePart → List ℕ
bytes_begun body Outside = []
bytes_begun body Body = 36 ∷ body
bytes_begun body Sharp = 36 ∷ (body ++ 35 ∷ [])
bytes_begun body (Digit first) = 36 ∷ (body ++ 35 ∷ first ∷ [])

-- a byte was heard after those of a frame that was begun: it follows them, or a $ (36) begins another frame
abbrev pub GoesOn : (begun : List ℕ) (byte : ℕ) (now : List ℕ) → Type 0
GoesOn begun byte now = (now ≡ begun ++ byte ∷ []) ⊎ ((byte ≡ 36) × (now ≡ 36 ∷ []))

-- this byte is the last one of a frame of this body, whose checksum is right
abbrev pub Completes : (body : List ℕ) → FramePart → ℕ → Type 0
Completes body Outside byte = ⊥
Completes body Body byte = ⊥
Completes body Sharp byte = ⊥
Completes body (Digit first) byte = IsSum body first byte

-- what a byte outside of a frame says: + (43), - (45) or 03
abbrev pub heard_outside : ℕ → Heard
heard_outside byte = if byte == 43 then Acknowledged else (if byte == 45 then Refused else (if byte == 3 then Interrupt else Nothing))
