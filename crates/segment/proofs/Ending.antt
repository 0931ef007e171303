-- The end of a segment that was executed on a view.
use Rattle.std.proofs.Common.{◌≡◌, ◌∙◌, ℕ, ap, sym, subst}
use Rattle.commit.specs.Merge.{changes}
use Rattle.guest_memory.specs.Memory.{Memory}
use Rattle.hart.specs.HartState.{HartState}
use Rattle.hart.specs.Segment as of_hart
use Rattle.hart.specs.declared.stop.Stop.{Stop}
use Rattle.paged_memory.specs.Snapshot as snapshots
use Rattle.segment.specs.Ends.{IsEndOf}
use Rattle.segment.specs.declared.segment.Segment.{Segment}
use Rattle.segment.specs.declared.segment_end.SegmentEnd.{SegmentEnd}
use Rattle.twins.specs.View.{base_of, cells_of}
use Rattle.twins.specs.declared.view.View.{View}
use Rattle.segment.specs.Ended.{IsEnded}

-- an end with what a view changed is that of the segment which ended so on the view
pub end_of : (segment : Segment) (copy : Memory) (stop : Stop) (count : ℕ) (hart : HartState) (view : View) (end : SegmentEnd) → snapshots.cells_of (base_of view) ≡ copy
    → of_hart.Segment segment.hart copy segment.left segment.quantum stop count hart (cells_of view) → IsEnded hart stop count view end → IsEndOf copy segment end
end_of segment copy stop count hart view end base there is = record {
  memory = cells_of view;
  patch = is.patch_is ∙ ap (λ (memory : Memory). changes memory (cells_of view)) base;
  segment_is =
      subst (λ (s : Stop). of_hart.Segment segment.hart copy segment.left segment.quantum s end.count end.hart (cells_of view)) (sym is.stop_is)
      (subst (λ (n : ℕ). of_hart.Segment segment.hart copy segment.left segment.quantum stop n end.hart (cells_of view)) (sym is.count_is)
      (subst (λ (h : HartState). of_hart.Segment segment.hart copy segment.left segment.quantum stop count h (cells_of view)) (sym is.hart_is) there));
}
