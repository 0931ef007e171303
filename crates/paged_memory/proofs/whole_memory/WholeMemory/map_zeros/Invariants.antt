use Rattle.std.proofs.Common.{◌≡◌, ◌+◌, length}
use Rattle.paged_memory.specs.Mapping.{with_zeros}
use Rattle.paged_memory.specs.WholeMemory.{cells_of}
use Rattle.paged_memory.proofs.whole_memory.WholeMemory.map_zeros.Given as goal

abbrev pub invariant-loop-done : goal.invariant-loop-done
invariant-loop-done l =
    (cells_of l.self ≡ with_zeros l.first l.done l.perm (cells_of l.initial.self))
    × (length l.self.perms.items ≡ length l.initial.self.perms.items + l.done)
