use Rattle.std.proofs.Common.{arith}
use Rattle.core_file.proofs.Parts.{register_more, registers_all}
use Rattle.core_file.proofs.notes.put_registers.Goals as goal

pub loop-register-preserved : goal.loop-register-preserved
loop-register-preserved c =
    register_more c.args.hart.now c.put_words.new.bytes.items c.loop-register.notes.items c.put_words-in-loop-register.new.bytes.items c.loop-register.register c.reg.result
    (omega arith) c.loop-register.invariant c.reg.ensures.value c.in_ok-put_words-2.ensures

pub returns : goal.returns
returns c =
    registers_all c.args.hart.now c.args.notes.now.items c.put_words.new.bytes.items c.loop-register.notes.items c.loop-register.register c.pc.result
    (omega arith) c.pc.ensures.pc c.in_ok-put_words.ensures c.loop-register.invariant
