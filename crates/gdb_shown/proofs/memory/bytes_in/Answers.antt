use Rattle.std.proofs.Common.{◌∙◌, sym, arith}
use Rattle.std.specs.Prelude.{min}
use Rattle.timeline.specs.Present.{moment_of}
use Rattle.timeline.specs.Shown.{byte_shown}
use Rattle.gdb_shown.proofs.Bytes.{beyond}
use Rattle.gdb_shown.proofs.memory.bytes_in.Goals as goal

pub returns-in-Err : goal.returns-in-Err
returns-in-Err c =
    let read = byte_shown (moment_of c.args.timeline.now.present) c.args.thread in
    c.new.ensures.items ∙ sym (beyond read c.args.window.start (min c.args.window.length 8192) (omega (arith, c.in-Err.ensures)))
