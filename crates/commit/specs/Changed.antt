use Rattle.std.specs.Prelude.{ℕ, List}
use Rattle.std.specs.FinMap.{keys}
use Rattle.guest_memory.specs.Memory.{Memory}
use Rattle.commit.specs.ByteMap.{ByteMap}
use Rattle.commit.specs.Merge.{changes}

-- the addresses at which some changes have a byte, ascending
abbrev pub addresses_of : ByteMap → List ℕ
addresses_of bytes = keys bytes

-- the set of the addresses where the bytes of copy and mine differ, ascending
abbrev pub changed : Memory → Memory → List ℕ
changed copy mine = addresses_of (changes copy mine)
