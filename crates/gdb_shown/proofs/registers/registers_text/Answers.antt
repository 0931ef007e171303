use Rattle.std.proofs.Common.{◌≡◌, arith}
use Rattle.gdb_shown.proofs.registers.registers_text.Goals as goal

pub returns : goal.returns
returns c =
    let all : c.loop-number.number ≡ 33 = omega arith in
    rw all at c.loop-number.invariant
