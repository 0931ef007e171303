use Rattle.std.proofs.Common.{[], sym}
use Rattle.gdb_packets.proofs.Parts.{split_none, split_there}
use Rattle.gdb_packets.proofs.Zips.{last_read, not_read, one_read, parts_of}
use Rattle.gdb_packets.proofs.resuming.actions_of.Goals as goal

pub returns-in_default-action_of : goal.returns-in_default-action_of
returns-in_default-action_of c =
    let splits = split_there 59 c.loop-part.rest.now c.in-Some.part.now c.in-Some.behind.now (sym c.in-Some.ensures) in
    not_read c.args.text.now c.loop-part.rest.now c.in-Some.part.now (parts_of c.in-Some.behind.now) c.loop-part.actions.items c.loop-part.invariant splits.0 c.in_default-action_of.ensures

pub loop-part-preserved : goal.loop-part-preserved
loop-part-preserved c =
    let splits = split_there 59 c.loop-part.rest.now c.in-Some.part.now c.in-Some.behind.now (sym c.in-Some.ensures) in
    rw c.in_ok-push.ensures.items
    (one_read c.args.text.now c.loop-part.rest.now c.in-Some.part.now c.in-Some.behind.now c.loop-part.actions.items c.in-Some-action_of.action c.loop-part.invariant splits.0
    c.in-Some-action_of.ensures)

pub returns-in_default-action_of-2 : goal.returns-in_default-action_of-2
returns-in_default-action_of-2 c =
    let last = split_none 59 c.loop-part.rest.now (sym c.in_default.ensures) in
    not_read c.args.text.now c.loop-part.rest.now c.loop-part.rest.now [] c.loop-part.actions.items c.loop-part.invariant last c.in_default-action_of-2.ensures

pub returns : goal.returns
returns c =
    let last = split_none 59 c.loop-part.rest.now (sym c.in_default.ensures) in
    rw c.in_ok-push-2.ensures.items
    (last_read c.args.text.now c.loop-part.rest.now c.loop-part.actions.items c.in-Some-action_of-2.action c.loop-part.invariant last c.in-Some-action_of-2.ensures)
