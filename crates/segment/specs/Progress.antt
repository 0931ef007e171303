-- What a slice makes of a segment.
use Rattle.std.specs.Prelude.{◌≡◌, ℕ, ◌<◌, IfSome}
use Rattle.guest_memory.specs.Memory.{Memory}
use Rattle.hart.specs.declared.slice_end.SliceEnd.{SliceEnd}
use Rattle.hart.specs.declared.slice_end.SliceEnd.TheVariants.{Unfinished, Stopped}
use Rattle.paged_memory.specs.Snapshot.{cells_of}
use Rattle.segment.specs.Ends.{IsEndOf}
use Rattle.segment.specs.declared.segment.Segment.{Segment}
use Rattle.segment.specs.declared.progress.Progress.{Progress}
use Rattle.segment.specs.declared.progress.Progress.TheVariants.{GoesOn, Over}

-- the segment on this memory, of which so much was done, is further on, or it ended as it does there
abbrev pub IsProgress : Memory → Segment → ℕ → Progress → Type 0
IsProgress memory segment done (GoesOn new) = (new.segment ≡ segment) × (cells_of new.base ≡ memory) × (done < new.done) × (new.done < segment.left)
IsProgress memory segment done (Over end) = IsEndOf memory segment end

-- a slice that is unfinished leaves more to do
abbrev pub IsWithin : Segment → SliceEnd → Type 0
IsWithin segment (Unfinished count) = (count < segment.left) × IfSome segment.quantum (λ q. count < q)
IsWithin segment (Stopped stop count) = Unit {0}

-- the progress that a slice with this end makes
abbrev pub IsProgressBy : Memory → Segment → SliceEnd → Progress → Type 0
IsProgressBy memory segment (Unfinished count) (GoesOn new) = (new.segment ≡ segment) × (cells_of new.base ≡ memory) × (new.done ≡ count)
IsProgressBy memory segment (Unfinished count) (Over end) = ⊥
IsProgressBy memory segment (Stopped stop count) (GoesOn new) = ⊥
IsProgressBy memory segment (Stopped stop count) (Over end) = IsEndOf memory segment end
