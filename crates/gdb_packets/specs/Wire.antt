-- The bytes for gdb.
use Rattle.std.specs.Prelude.{◌≡◌, ℕ, ◌==◌, ◌&&◌, Bool, true, false, not, nat_le, if◌then◌else◌, List, [], ◌∷◌, ◌++◌, length, codes}
use Rattle.std.specs.List.{flat_map}
use Rattle.gdb_packets.specs.Digits.{digits_of}
use Rattle.gdb_packets.specs.Frames.{frame_of}
use Rattle.gdb_packets.specs.declared.wire.Wire.{Wire}

-- the bytes that weren't taken yet
abbrev pub sent_of : Wire → List ℕ
sent_of wire = wire.out.items

-- the packet of a part of a text that is printed: O (79) and its digits
abbrev pub printing : List ℕ → List ℕ
printing part = frame_of (79 ∷ digits_of part)

-- The bytes grew by packets that print the parts of this text.
pub record IsPrinted (old text new : List ℕ) : Type 0 where
  pub parts : List (List ℕ)
  pub whole : flat_map (λ part. part) parts ≡ text
  pub sent : new ≡ old ++ flat_map printing parts

-- whether the answer to a command has room for its text: at most 7,936 bytes, and it isn't empty
abbrev pub fits_answer : List ℕ → Bool
fits_answer text = not (length text == 0) && nat_le (length text) 0x1f00

-- A command was answered with its text, in digits. One that doesn't fit was printed before an OK.
abbrev pub IsSaid : Bool → (old text new : List ℕ) → Type 0
IsSaid true old text new = new ≡ old ++ frame_of (digits_of text)
IsSaid false old text new = (printed : List ℕ) × IsPrinted old text printed × (new ≡ printed ++ frame_of (codes "OK"))

-- packets are acknowledged as before
abbrev pub Keeps : Wire → Wire → Type 0
Keeps old new = new.acknowledges ≡ old.acknowledges

-- these bytes were sent, and nothing else happened
pub record IsSent (old : Wire) (bytes : List ℕ) (new : Wire) : Type 0 where
  pub sent : sent_of new ≡ sent_of old ++ bytes
  pub rest : new ≡ record old { out = new.out }

-- a byte that is sent if packets are acknowledged
abbrev pub noted : Wire → ℕ → List ℕ
noted wire byte = if wire.acknowledges then byte ∷ [] else []

-- the last answer, if packets are acknowledged
abbrev pub repeated : Wire → List ℕ
repeated wire = if wire.acknowledges then wire.last.items else []
