use Rattle.std.proofs.Common.{◌+◌, List, ℕ, ◌≤◌, append_assoc, append-nil, arith, rules, length-append}
use Rattle.std.proofs.lemmas.List.{take-append-le}
use Rattle.paged_memory.specs.Snapshot.{cells_of}
use Rattle.call_table.specs.Effects.{bytes_of}
use Rattle.guest_memory.specs.Memory.{Memory}
use Rattle.call_table.proofs.Ranges.{bytes_of-end, length-bytes_of}
use Rattle.call_table.proofs.Runs.{bytes_of-run}
use Rattle.call_table.proofs.state_in_call.transfer_calls.append.Goals as goal

pub loop-done-preserved : goal.loop-done-preserved
loop-done-preserved c =
    let memory : Memory = cells_of c.args.memory.now in
    let output : List ℕ = c.loop-done.output.items in
    let run : ℕ = c.run_length-run.result in
    let ran = c.run_length-run.ensures in
    let old = c.loop-done.invariant in
    let made : List ℕ = bytes_of memory (c.args.address + c.loop-done.done) run in
    let reached = old.reached in
    let within : c.loop-done.done + run ≤ c.args.count = omega (arith, ran.within) in
    record {
      within = within;
      begins = rw (c.in_default.ensures.appends.done, take-append-le) old.begins;
      gathered = rw (c.in_default.ensures.appends.done, append_assoc, ← bytes_of-run memory c.args.address c.loop-done.done run c.args.count within) old.gathered;
      reached = rw c.in_default.ensures.appends.done (omega (arith, length-append output made));
      done = rw c.in_default.ensures.appends.done (omega (arith, length-append output made, length-bytes_of memory (c.args.address + c.loop-done.done) run));
      capacity = omega (arith, c.in_default.ensures.capacity);
    }

pub returns-clause-appends : goal.returns-clause-appends
returns-clause-appends c =
    let ended = bytes_of-end (cells_of c.args.memory.now) (c.args.address + c.loop-done.done) c.loop-done.done c.args.count c.loop-done-test.false in
    record { done = rw (ended, append-nil) at c.loop-done.invariant.gathered; kept = search rules; succeeds = search rules }

pub returns-clause-room : goal.returns-clause-room
returns-clause-room c =
    let memory = cells_of c.args.memory.now in
    let ended = bytes_of-end memory (c.args.address + c.loop-done.done) c.loop-done.done c.args.count c.loop-done-test.false in
    let whole = rw (ended, append-nil) at c.loop-done.invariant.gathered in
    let bytes : List ℕ = bytes_of memory c.args.address c.args.count in
    rw whole (omega (arith, length-append c.args.output.now.items bytes, length-bytes_of memory c.args.address c.args.count))
