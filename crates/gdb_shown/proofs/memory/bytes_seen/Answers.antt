use Rattle.std.proofs.Common.{◌≡◌, ◌∙◌, ◌+◌, ◌-◌, Some, None, sym, ap, arith}
use Rattle.timeline.specs.Present.{moment_of}
use Rattle.timeline.specs.Shown.{byte_shown}
use Rattle.gdb_shown.proofs.Bytes.{all_there, beyond, none_left, one_more, unmapped}
use Rattle.gdb_shown.proofs.memory.bytes_seen.Goals as goal

pub returns-in_default : goal.returns-in_default
returns-in_default c =
    let read = byte_shown (moment_of c.args.timeline.now.present) c.args.thread in
    all_there read c.args.start c.args.length c.loop-offset.bytes.items c.loop-offset.offset c.loop-offset.invariant
    (beyond read (c.args.start + c.loop-offset.offset) (c.args.length - c.loop-offset.offset) (omega (arith, c.in_default.ensures)))

pub returns-in_default-byte : goal.returns-in_default-byte
returns-in_default-byte c =
    let read = byte_shown (moment_of c.args.timeline.now.present) c.args.thread in
    let none : read (c.args.start + c.loop-offset.offset) ≡ None = sym (ap read c.in-Some.ensures.1) ∙ sym c.byte.ensures ∙ c.in_default-byte.is in
    all_there read c.args.start c.args.length c.loop-offset.bytes.items c.loop-offset.offset c.loop-offset.invariant
    (unmapped read (c.args.start + c.loop-offset.offset) (c.args.length - c.loop-offset.offset) none)

pub loop-offset-preserved : goal.loop-offset-preserved
loop-offset-preserved c =
    let read = byte_shown (moment_of c.args.timeline.now.present) c.args.thread in
    let byte : read (c.args.start + c.loop-offset.offset) ≡ Some c.in-Some-byte.byte = sym (ap read c.in-Some.ensures.1) ∙ sym c.byte.ensures ∙ c.in-Some-byte.is in
    rw c.in_ok-push.ensures.items
    (one_more read c.args.start c.args.length c.loop-offset.bytes.items c.loop-offset.offset c.in-Some-byte.byte c.loop-offset.invariant c.in-Some.ensures.0 byte c.loop-offset-test.true)

pub returns : goal.returns
returns c =
    let read = byte_shown (moment_of c.args.timeline.now.present) c.args.thread in
    all_there read c.args.start c.args.length c.loop-offset.bytes.items c.loop-offset.offset c.loop-offset.invariant
    (none_left read (c.args.start + c.loop-offset.offset) (c.args.length - c.loop-offset.offset) (omega arith))
