use Rattle.paged_memory.specs.Snapshot as snapshots
use Rattle.twins.specs.View as views
use Rattle.commit.proofs.Comparing.{Compares}
use Rattle.commit.proofs.patch.Patch.of.Given as goal

abbrev pub invariant-loop-number : goal.invariant-loop-number
invariant-loop-number l = Compares (snapshots.pages_of (views.base_of l.view)) (views.pages_of l.view) l.number-items l.pages l.number-index
