use Rattle.std.proofs.Common.{◌≡◌, ◌-◌, ◌≤◌, length, take}
use Rattle.paged_memory.specs.Mapping.{with_bytes}
use Rattle.paged_memory.specs.Snapshot.{cells_of}
use Rattle.call_table.proofs.state_in_call.transfer_calls.fill.Given as goal

abbrev pub invariant-loop-done : goal.invariant-loop-done
invariant-loop-done l = record {
  within : l.done ≤ l.count;
  count : l.count ≡ length l.bytes;
  filled : cells_of l.memory ≡ with_bytes l.address (take l.done l.bytes) (cells_of l.fn.memory);
}

abbrev pub decreases-loop-done : goal.decreases-loop-done
decreases-loop-done l = l.count - l.done
