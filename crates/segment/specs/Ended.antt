-- The end of a segment that was executed on a view.
use Rattle.std.specs.Prelude.{◌≡◌, ℕ}
use Rattle.commit.specs.Merge.{changes}
use Rattle.hart.specs.HartState.{HartState}
use Rattle.hart.specs.declared.stop.Stop.{Stop}
use Rattle.paged_memory.specs.Snapshot as snapshots
use Rattle.segment.specs.declared.segment_end.SegmentEnd.{SegmentEnd}
use Rattle.twins.specs.View.{base_of, cells_of}
use Rattle.twins.specs.declared.view.View.{View}

-- the end has this hart, stop and count, and what a view changed
pub record IsEnded (hart : HartState) (stop : Stop) (count : ℕ) (view : View) (end : SegmentEnd) : Type 0 where
  pub hart_is : end.hart ≡ hart
  pub stop_is : end.stop ≡ stop
  pub count_is : end.count ≡ count
  pub patch_is : end.patch ≡ changes (snapshots.cells_of (base_of view)) (cells_of view)
