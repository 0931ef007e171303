use Rattle.std.specs.Prelude.{ℕ, Option, Some, None, List, []}
use Rattle.commit.specs.ByteMap.{ByteMap}
use Rattle.commit.specs.Changed.{addresses_of}
use Rattle.token.specs.declared.turn.Turn.{Turn}

-- the change of a turn: its phase, its thread, and the addresses of the bytes that differ from the thread's copy, ascending
pub record Change : Type 0 where
  pub phase : ℕ
  pub thread : ℕ
  pub addresses : List ℕ

-- the addresses of a turn's patch, none at a wake
abbrev pub addresses_by : Option ByteMap → List ℕ
addresses_by None = []
addresses_by (Some patch) = addresses_of patch

-- the change of a turn that changed the bytes at these addresses
abbrev pub change_by : Turn → List ℕ → Change
change_by turn addresses = record { phase = turn.phase; thread = turn.thread; addresses = addresses }
