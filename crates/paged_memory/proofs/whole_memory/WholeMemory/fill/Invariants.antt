use Rattle.std.proofs.Common.{◌≡◌, length, take}
use Rattle.paged_memory.specs.Mapping.{with_bytes}
use Rattle.paged_memory.specs.WholeMemory.{cells_of}
use Rattle.paged_memory.proofs.whole_memory.WholeMemory.fill.Given as goal

abbrev pub invariant-loop-done : goal.invariant-loop-done
invariant-loop-done l =
    (cells_of l.self ≡ with_bytes l.start (take l.done l.bytes) (cells_of l.initial.self))
    × (length l.self.perms.items ≡ length l.initial.self.perms.items)
