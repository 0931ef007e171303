-- What is known of the accesses that are kept of a page's words, by blocks of 64 words.
use Rattle.std.specs.Prelude.{◌≡◌, ◌≢◌, ℕ, ◌/◌, ◌<◌, ◌≤◌, true, false, List, length, slice_index_or}
use Rattle.races.specs.Linked.{IsAt}
use Rattle.races.specs.declared.block.Block.{Block}
use Rattle.races.specs.declared.kept_access.KeptAccess.{KeptAccess}
use Rattle.races.specs.declared.latest.Latest.{Latest}

-- An access is the owner's; or one of the only other thread, not after a step; or several other threads had accesses.
pub record IsKnown (block : Block) (past : Latest) : Type 0 where
  pub used : block.is_used ≡ true
  pub late : past.step ≤ block.last
  pub others : past.site.thread ≢ block.owner → block.is_shared ≡ false → (block.has_other ≡ true) × (block.other ≡ past.site.thread) × (past.step ≤ block.until)

-- a block is at an index
abbrev pub IsBlockAt : List Block → (index : ℕ) → Block → Type 0
IsBlockAt blocks index block = (index < length blocks) × (slice_index_or blocks index block ≡ block)

-- a word's block
abbrev pub IsBlockOf : List Block → (place : ℕ) → Block → Type 0
IsBlockOf blocks place block = IsBlockAt blocks (place / 64) block

-- each entry is known to its block
abbrev pub AreKnown : List Block → List KeptAccess → Type 0
AreKnown blocks entries = (index : ℕ) (entry : KeptAccess) (block : Block) → IsAt entries index entry → IsBlockOf blocks entry.place block → IsKnown block entry.latest

-- an access of the word at a place may be kept
abbrev pub MayCome : List Block → (place : ℕ) → Latest → Type 0
MayCome blocks place own = (block : Block) → IsBlockOf blocks place block → IsKnown block own
