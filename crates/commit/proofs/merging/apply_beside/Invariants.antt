use Rattle.std.proofs.Common.{◌≡◌, take}
use Rattle.commit.specs.Merge.{with_bytes}
use Rattle.commit.specs.Patched.{patched}
use Rattle.paged_memory.specs.Snapshot.{cells_of}
use Rattle.commit.proofs.merging.apply_beside.Given as goal

abbrev pub invariant-loop-page : goal.invariant-loop-page
invariant-loop-page l = cells_of l.merged ≡ with_bytes (patched (take l.page-index l.page-items)) (cells_of l.fn.snapshot)
