use Rattle.std.proofs.Common.{◌≡◌, ◌∙◌, ◌+◌, ◌-◌, Some, None, sym, ap, arith}
use Rattle.timeline.specs.Present.{moment_of}
use Rattle.gdb_shown.specs.Memory.{shared_byte}
use Rattle.gdb_shown.proofs.Bytes.{all_there, beyond, none_left, one_more, unmapped}
use Rattle.gdb_shown.proofs.memory.bytes_shared.Goals as goal

pub returns-in_default : goal.returns-in_default
returns-in_default c =
    let read = shared_byte (moment_of c.args.timeline.now.present) in
    all_there read c.args.start c.args.length c.loop-offset.bytes.items c.loop-offset.offset c.loop-offset.invariant
    (beyond read (c.args.start + c.loop-offset.offset) (c.args.length - c.loop-offset.offset) (omega (arith, c.in_default.ensures)))

pub returns-in_default-byte_shared : goal.returns-in_default-byte_shared
returns-in_default-byte_shared c =
    let read = shared_byte (moment_of c.args.timeline.now.present) in
    let none : read (c.args.start + c.loop-offset.offset) ≡ None = sym (ap read c.in-Some.ensures.1) ∙ sym c.byte_shared.ensures ∙ c.in_default-byte_shared.is in
    all_there read c.args.start c.args.length c.loop-offset.bytes.items c.loop-offset.offset c.loop-offset.invariant
    (unmapped read (c.args.start + c.loop-offset.offset) (c.args.length - c.loop-offset.offset) none)

pub loop-offset-preserved : goal.loop-offset-preserved
loop-offset-preserved c =
    let read = shared_byte (moment_of c.args.timeline.now.present) in
    let byte : read (c.args.start + c.loop-offset.offset) ≡ Some c.in-Some-byte_shared.byte = sym (ap read c.in-Some.ensures.1) ∙ sym c.byte_shared.ensures ∙ c.in-Some-byte_shared.is in
    rw c.in_ok-push.ensures.items
    (one_more read c.args.start c.args.length c.loop-offset.bytes.items c.loop-offset.offset c.in-Some-byte_shared.byte c.loop-offset.invariant c.in-Some.ensures.0 byte c.loop-offset-test.true)

pub returns : goal.returns
returns c =
    let read = shared_byte (moment_of c.args.timeline.now.present) in
    all_there read c.args.start c.args.length c.loop-offset.bytes.items c.loop-offset.offset c.loop-offset.invariant
    (none_left read (c.args.start + c.loop-offset.offset) (c.args.length - c.loop-offset.offset) (omega arith))
