use Rattle.std.proofs.Common.{◌≡◌, ◌+◌, ◌-◌}
use Rattle.paged_memory.specs.Snapshot.{cells_of}
use Rattle.call_table.specs.Effects.{are_mapped}
use Rattle.call_table.proofs.state_in_call.memory_calls.are_mapped.Given as goal

abbrev pub invariant-loop-done : goal.invariant-loop-done
invariant-loop-done l = are_mapped (cells_of l.memory) (l.first + l.done) (l.count - l.done) ≡ are_mapped (cells_of l.memory) l.first l.count
