-- The accesses of dead bytes in a run, and which of them are told.
use Rattle.std.specs.Prelude.{◌≡◌, ℕ, ◌<◌, ◌↔◌, true, List, Contains, length, slice_index_or}
use Rattle.std.proofs.Common.{take}
use Rattle.races.specs.Bytes.{has}
use Rattle.races.specs.Lives.{IsDead, Life, byte_at, life_at}
use Rattle.races.specs.Lives.Life.{Use}
use Rattle.races.specs.Steps.{IsSameAuthor}
use Rattle.races.specs.declared.freed_access.FreedAccess.{FreedAccess}
use Rattle.races.specs.declared.freed_block.FreedBlock.{FreedBlock}
use Rattle.races.specs.declared.site.Access.{Access}

-- A fault: an access of a byte that is dead by then, as one of a block.
pub record IsFault (lives : List Life) (index : ℕ) (access : Access) (place : ℕ) (block : FreedBlock) : Type 0 where
  pub is : life_at lives index ≡ Use access place
  pub dead : IsDead (take index lives) (byte_at access.word place) block

-- both blocks died by the same place in the program, in the same thread
abbrev pub IsSamePlace : FreedBlock → FreedBlock → Type 0
IsSamePlace one other = (one.freed_by.thread ≡ other.freed_by.thread) × (one.freed_by.pc ≡ other.freed_by.pc)

-- what is told has the fault: it is of the same instruction of the thread, the same word, and a block that died by the same place
pub record Tells (told : FreedAccess) (access : Access) (block : FreedBlock) : Type 0 where
  pub author : IsSameAuthor told.site access.site
  pub word_is : told.word ≡ access.word
  pub place_is : IsSamePlace told.block block

-- What is told is the fault with this index, with all bytes of the access that are dead by the same block, and the first that it has.
pub record IsTold (lives : List Life) (index : ℕ) (told : FreedAccess) : Type 0 where
  pub access : Access
  pub place : ℕ
  pub fault : IsFault lives index access place told.block
  pub site_is : told.site ≡ access.site
  pub word_is : told.word ≡ access.word
  pub bytes : (other : ℕ) → (has told.bytes other ≡ true) ↔ ((has access.bytes other ≡ true) × IsDead (take index lives) (byte_at access.word other) told.block)
  pub first : (earlier : ℕ) (one : Access) (other : ℕ) (block : FreedBlock) → earlier < index → IsFault lives earlier one other block → ¬ Tells told one block

-- The faults of a run as they are told: each is one, in the order of the run; and each fault has one that tells it.
pub record AreFreed (lives : List Life) (told : List FreedAccess) : Type 0 where
  pub index : ℕ → ℕ
  pub sound : (number : ℕ) (none : FreedAccess) → number < length told → IsTold lives (index number) (slice_index_or told number none)
  pub ordered : (one other : ℕ) → one < other → other < length told → index one < index other
  pub complete : (at : ℕ) (access : Access) (place : ℕ) (block : FreedBlock) → IsFault lives at access place block → (one : FreedAccess) × Contains told one × Tells one access block
