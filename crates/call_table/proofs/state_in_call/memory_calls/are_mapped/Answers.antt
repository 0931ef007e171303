use Rattle.std.proofs.Common.{sym, ◌∙◌, ◌+◌}
use Rattle.paged_memory.specs.Snapshot.{cells_of}
use Rattle.call_table.proofs.Ranges.{are_mapped-told, are_mapped-end}
use Rattle.call_table.proofs.state_in_call.memory_calls.are_mapped.Goals as goal

pub returns-then-is_none : goal.returns-then-is_none
returns-then-is_none c =
    let told = are_mapped-told (cells_of c.args.memory.now) c.args.first c.loop-done.done c.args.count c.byte.result c.is_none.result c.loop-done-test.true c.byte.ensures c.is_none.ensures in
    sym (rw c.if-is_none.true at told) ∙ c.loop-done.invariant

pub loop-done-preserved : goal.loop-done-preserved
loop-done-preserved c =
    let told = are_mapped-told (cells_of c.args.memory.now) c.args.first c.loop-done.done c.args.count c.byte.result c.is_none.result c.loop-done-test.true c.byte.ensures c.is_none.ensures in
    sym (rw c.if-is_none.false at told) ∙ c.loop-done.invariant

pub returns : goal.returns
returns c = sym (are_mapped-end (cells_of c.args.memory.now) (c.args.first + c.loop-done.done) c.loop-done.done c.args.count c.loop-done-test.false) ∙ c.loop-done.invariant
