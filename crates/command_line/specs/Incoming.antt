-- The bytes of gdb that were read and not taken yet. How they get here from the host thread that reads them isn't told.
use Rattle.std.specs.Prelude.{◌≡◌, ◌+◌, ℕ, Option, Some, None, slice_get}
use Rattle.command_line.specs.declared.incoming.Coming.{Coming}
use Rattle.command_line.specs.declared.incoming.Coming.TheVariants.{Byte, Nothing, End}
use Rattle.command_line.specs.declared.incoming.Incoming.{Incoming}

-- the byte that comes next, if it is at hand
abbrev pub byte_at_hand : Incoming → Option ℕ
byte_at_hand incoming = slice_get incoming.piece.items incoming.taken

-- one byte was taken of those at hand, and nothing else happened
abbrev pub IsPassed : (old new : Incoming) → Type 0
IsPassed old new = new ≡ record old { taken = old.taken + 1 }

-- This byte was taken, which was the next one at hand, maybe after more was read. No loss was met.
pub record Takes (old new : Incoming) (byte : ℕ) : Type 0 where
  pub before : Incoming
  pub next : byte_at_hand before ≡ Some byte
  pub passed : IsPassed before new
  pub whole : before.lost ≡ old.lost

-- What comes next: this byte, which is at hand now; nothing yet, or nothing any more, and none is at hand. A loss is met at the end alone.
abbrev pub Comes : (old new : Incoming) → Coming → Type 0
Comes old new (Byte byte) = (byte_at_hand new ≡ Some byte) × (new.lost ≡ old.lost)
Comes old new Nothing = (byte_at_hand new ≡ None) × (new.lost ≡ old.lost)
Comes old new End = (byte_at_hand old ≡ None) × (new ≡ record old { lost = new.lost })
