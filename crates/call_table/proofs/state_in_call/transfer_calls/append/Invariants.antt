use Rattle.std.proofs.Common.{◌≡◌, ◌+◌, ◌-◌, ◌++◌, take, length, ◌≤◌}
use Rattle.std.specs.Prelude.{vec_capacity}
use Rattle.paged_memory.specs.Snapshot.{cells_of}
use Rattle.call_table.specs.Effects.{bytes_of}
use Rattle.call_table.proofs.state_in_call.transfer_calls.append.Given as goal

abbrev pub invariant-loop-done : goal.invariant-loop-done
invariant-loop-done l = record {
  within : l.done ≤ l.count;
  begins : take l.before l.output.items ≡ l.fn.output.items;
  gathered : l.output.items ++ bytes_of (cells_of l.memory) (l.address + l.done) (l.count - l.done) ≡ l.fn.output.items ++ bytes_of (cells_of l.memory) l.address l.count;
  reached : l.before ≤ length l.output.items;
  done : length l.output.items ≡ l.before + l.done;
  capacity : vec_capacity l.fn.output ≤ vec_capacity l.output;
}

abbrev pub decreases-loop-done : goal.decreases-loop-done
decreases-loop-done l = l.count - l.done
