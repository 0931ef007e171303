-- How a segment ends.
use Rattle.std.specs.Prelude.{◌≡◌, ℕ, ◌<◌, None}
use Rattle.guest_memory.specs.Memory.{Memory}
use Rattle.hart.specs.Segment as of_hart
use Rattle.commit.specs.Merge.{changes}
use Rattle.segment.specs.declared.segment.Segment.{Segment}
use Rattle.segment.specs.declared.segment_end.SegmentEnd.{SegmentEnd}

-- The end is that of the segment on a copy of a memory: the patch has what the memory at its end changed.
pub record IsEndOf (copy : Memory) (segment : Segment) (end : SegmentEnd) : Type 0 where
  pub memory : Memory
  pub patch : end.patch ≡ changes copy memory
  pub segment_is : of_hart.Segment segment.hart copy segment.left segment.quantum end.stop end.count end.hart memory

-- The segment on a copy of a memory has executed so many instructions without a stop.
abbrev pub GoesOnAt : Memory → Segment → ℕ → Type 0
GoesOnAt copy segment count = (k : ℕ) → k < count → of_hart.stop_after segment.hart copy segment.left segment.quantum k ≡ None
