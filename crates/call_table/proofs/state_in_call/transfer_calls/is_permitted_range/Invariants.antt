use Rattle.std.proofs.Common.{◌≡◌, ◌+◌, ◌-◌, ◌≤◌}
use Rattle.paged_memory.specs.Snapshot.{cells_of}
use Rattle.call_table.specs.Effects.{all_permitted}
use Rattle.call_table.proofs.state_in_call.transfer_calls.is_permitted_range.Given as goal

abbrev pub invariant-loop-done : goal.invariant-loop-done
invariant-loop-done g l =
    record {
      within : l.done ≤ l.count;
      permitted : all_permitted g.permits (cells_of l.memory) (l.address + l.done) (l.count - l.done) ≡ all_permitted g.permits (cells_of l.memory) l.address l.count;
    }

abbrev pub decreases-loop-done : goal.decreases-loop-done
decreases-loop-done g l = l.count - l.done
