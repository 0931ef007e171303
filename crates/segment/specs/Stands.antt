-- Where a segment stands that has begun and goes on.
use Rattle.std.specs.Prelude.{ℕ, ◌<◌, IfSome}
use Rattle.hart.specs.HartState.{HartState}
use Rattle.hart.specs.Slice.{Runs}
use Rattle.paged_memory.specs.Snapshot as snapshots
use Rattle.paged_memory.specs.declared.snapshot.Snapshot.{Snapshot}
use Rattle.twins.specs.View.{base_of, cells_of}
use Rattle.twins.specs.declared.view.View.{View}
use Rattle.segment.specs.declared.segment.Segment.{Segment}

-- a segment that goes on: what it began with, and how many instructions it has executed
pub record UnderwayState : Type 0 where
  pub segment : Segment
  pub base : Snapshot
  pub done : ℕ

-- it has executed so many of its instructions on a copy of the view's base, to this hart and the view's bytes, and may execute more
pub record Stands (segment : Segment) (done : ℕ) (hart : HartState) (view : View) : Type 0 where
  pub runs : Runs segment.hart (snapshots.cells_of (base_of view)) segment.left segment.quantum done hart (cells_of view)
  pub bound : done < segment.left
  pub quantum : IfSome segment.quantum (λ q. done < q)
