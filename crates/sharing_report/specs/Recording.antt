-- What a recorder of sharing has recorded.
use Rattle.std.specs.Prelude.{◌≡◌, ◌⊎◌, ℕ, ◌+◌, ◌-◌, ◌^◌, ◌<◌, ◌≤◌, List, All, length}
use Rattle.std.specs.List.{AllPairs}
use Rattle.token.specs.Change.{Change}
use Rattle.sharing_report.specs.ByteChanges.{bytes_of}
use Rattle.sharing_report.specs.Pages.{AreKnown, HasPages}
use Rattle.sharing_report.specs.declared.sharing_recorder.SharingRecorder.{SharingRecorder}

-- Changes come in the order of their phases, and each is of one of 256 threads. Those of a legal history do.
pub record AreInOrder (changes : List Change) : Type 0 where
  pub phases : AllPairs (λ earlier later. earlier.phase ≤ later.phase) changes
  pub threads : All (λ change. change.thread < 256) changes

-- What is known of the pages is known of the bytes that these changes have, where they come in order. The turns and the changed bytes
-- are counted.
pub record Shares (recorder : SharingRecorder) (changes : List Change) : Type 0 where
  pub turns : recorder.turns ≡ length changes
  pub counted : recorder.counted ≡ length changes + length (bytes_of changes)
  pub pages : AreInOrder changes → AreKnown recorder.pages (bytes_of changes)

-- the addresses are at hand, and so are their pages, and a turn that changes them can be counted
pub record IsPrepared (recorder : SharingRecorder) (addresses : List ℕ) : Type 0 where
  pub at_hand : recorder.addresses.items ≡ addresses
  pub pages : HasPages recorder.pages addresses
  pub room : recorder.counted + length addresses + 1 < 2 ^ 64 - 1

-- how much is counted at most: turns and changed bytes together, or the bytes that one turn changes
abbrev pub most_counted : ℕ
most_counted = 2 ^ 62

-- nothing more is recorded: so much was counted, or the turn at hand changed so much
abbrev pub IsFull : SharingRecorder → Type 0
IsFull recorder = (most_counted ≤ recorder.counted) ⊎ (most_counted ≤ length recorder.addresses.items)
