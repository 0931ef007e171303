use Rattle.std.proofs.Common.{◌≡◌, ◌-◌}
use Rattle.decoded_code.specs.Code.{HasCode}
use Rattle.hart.specs.Slice.{Runs}
use Rattle.paged_memory.specs.Snapshot as snapshots
use Rattle.twins.specs.View.{base_of, cells_of}
use Rattle.observed_run.specs.Events.{events_upto}
use Rattle.observed_run.specs.Slices.{MayExecute}
use Rattle.observed_run.specs.Told.{IsTold}
use Rattle.observed_run.proofs.observing.observe.Given as goal

abbrev pub invariant-loop-view : goal.invariant-loop-view
invariant-loop-view l = record {
  runs : Runs l.segment.hart (snapshots.cells_of l.base) l.segment.left l.segment.quantum l.done l.hart (cells_of l.view.memory.memory);
  may : MayExecute l.segment l.done;
  base : snapshots.cells_of (base_of l.view.memory.memory) ≡ snapshots.cells_of l.base;
  code : HasCode l.code.start l.code.entries.now (cells_of l.view.memory.memory);
  told : IsTold l.fn.recorder l.recorder (events_upto l.actor l.segment.hart (snapshots.cells_of l.base) l.done);
}

abbrev pub decreases-loop-view : goal.decreases-loop-view
decreases-loop-view l = l.segment.left - l.done
