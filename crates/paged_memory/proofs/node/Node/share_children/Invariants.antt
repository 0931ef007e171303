use Rattle.std.proofs.Common.{◌≡◌, ◌<◌, ◌≤◌, ℕ, None}
use Rattle.std.specs.Prelude.{slice_index_or, option_map}
use Rattle.std.specs.Arc.{arc_value}
use Rattle.paged_memory.proofs.node.Node.share_children.Given as goal

-- the children before the index are shared, and from it on there are none
abbrev pub invariant-loop-index : goal.invariant-loop-index
invariant-loop-index g l =
    ((k : ℕ) → k < l.index → option_map arc_value (slice_index_or l.self.entries k None) ≡ option_map arc_value (slice_index_or l.other.entries k None))
    × ((k : ℕ) → l.index ≤ k → slice_index_or l.self.entries k None ≡ None)
