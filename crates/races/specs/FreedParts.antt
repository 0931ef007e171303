-- How the dead bytes are kept: entries by the addresses at which they begin.
use Rattle.std.specs.Prelude.{◌≡◌, ℕ, ◌+◌, ◌<◌, ◌≤◌, ◌⊎◌, ◌↔◌, Option, Some, None, IsSome}
use Rattle.std.specs.Ordering.{nat_cmp}
use Rattle.std.specs.BTreeMap.{BTreeMap, get}
use Rattle.races.specs.Lives.{IsAmong}
use Rattle.races.specs.declared.freed_block.FreedBlock.{FreedBlock}
use Rattle.races.specs.declared.freed_part.FreedPart.{FreedPart}

-- the entries by their starts
abbrev pub Parts : Type 0
Parts = BTreeMap ℕ FreedPart

abbrev pub IsEntry : Parts → (start : ℕ) → FreedPart → Type 0
IsEntry parts start part = get nat_cmp parts start ≡ Some part

abbrev pub HasStart : Parts → (start : ℕ) → Type 0
HasStart parts start = IsSome (get nat_cmp parts start)

-- a byte is in an entry, and died with this block
pub record Holds (parts : Parts) (byte : ℕ) (block : FreedBlock) : Type 0 where
  pub start : ℕ
  pub part : FreedPart
  pub entry : IsEntry parts start part
  pub late : start ≤ byte
  pub early : byte < part.end
  pub block_is : part.block ≡ block

-- each entry has a byte, and ends before the next one begins
pub record AreApart (parts : Parts) : Type 0 where
  pub some : (start : ℕ) (part : FreedPart) → IsEntry parts start part → start < part.end
  pub apart : (start other : ℕ) (part more : FreedPart) → IsEntry parts start part → IsEntry parts other more → start < other → part.end ≤ other

-- the last of the entries that begin before an address, none if there is none
abbrev pub IsLastBefore : Parts → (end : ℕ) → Option (ℕ × FreedPart) → Type 0
IsLastBefore parts end None = (start : ℕ) (part : FreedPart) → IsEntry parts start part → end ≤ start
IsLastBefore parts end (Some last) = IsEntry parts last.0 last.1 × (last.0 < end) × ((start : ℕ) (part : FreedPart) → IsEntry parts start part → start < end → start ≤ last.0)

-- no entry goes over an address
abbrev pub IsEdge : Parts → (at : ℕ) → Type 0
IsEdge parts at = (start : ℕ) (part : FreedPart) → IsEntry parts start part → start < at → part.end ≤ at

-- the same bytes died with the same blocks
abbrev pub KeepsHeld : (old new : Parts) → Type 0
KeepsHeld old new = (byte : ℕ) (block : FreedBlock) → Holds new byte block ↔ Holds old byte block

abbrev pub KeepsEdges : (old new : Parts) → Type 0
KeepsEdges old new = (at : ℕ) → IsEdge old at → IsEdge new at

-- the entries that begin from a start on, and before an end, are removed
abbrev pub IsTrimmed : (old : Parts) → (start end : ℕ) → (new : Parts) → Type 0
IsTrimmed old start end new = (at : ℕ) (part : FreedPart) → IsEntry new at part ↔ (IsEntry old at part × ¬ ((start ≤ at) × (at < end)))

-- the bytes from a start up to an end are no longer there
abbrev pub IsCut : (old : Parts) → (start end : ℕ) → (new : Parts) → Type 0
IsCut old start end new = (byte : ℕ) (block : FreedBlock) → Holds new byte block ↔ (Holds old byte block × ¬ ((start ≤ byte) × (byte < end)))

-- and the bytes of a block died with it
abbrev pub IsKilled : (old : Parts) → FreedBlock → (new : Parts) → Type 0
IsKilled old killed new = (byte : ℕ) (block : FreedBlock)
    → Holds new byte block ↔ ((IsAmong killed.address killed.length byte × (killed ≡ block)) ⊎ (Holds old byte block × ¬ IsAmong killed.address killed.length byte))
