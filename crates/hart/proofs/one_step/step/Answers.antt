use Rattle.std.proofs.Common.{sym}
use Rattle.hart.proofs.OneStep.{no_quantum, one_call, one_trap, one_more, one_waits}
use Rattle.hart.proofs.one_step.step.Goals as goal

pub unreachable-requires : goal.unreachable-requires
unreachable-requires g c =
    let end = rw (c.in-Ok-Quantum-default.is, c.in-Ok-Quantum-default.field-0-0-is) at c.run_to_stop.ensures.stops in
    no_quantum _ _ _ _ _ end

pub returns-in-Ok-Ecall-default-clause-steps : goal.returns-in-Ok-Ecall-default-clause-steps
returns-in-Ok-Ecall-default-clause-steps g c =
    let end = rw (c.in-Ok-Ecall-default.is, c.in-Ok-Ecall-default.field-0-0-is) at c.run_to_stop.ensures.stops in
    one_call _ _ _ _ _ end

pub returns-then-count-eq0-clause-steps : goal.returns-then-count-eq0-clause-steps
returns-then-count-eq0-clause-steps g c =
    let end = rw (c.in-Ok-Trap-default.is, c.in-Ok-Trap-default.field-0-0-is) at c.run_to_stop.ensures.stops in
    one_trap _ _ _ _ _ _ (cc) end

pub returns-else-count-eq0-clause-steps : goal.returns-else-count-eq0-clause-steps
returns-else-count-eq0-clause-steps g c =
    let end = rw (c.in-Ok-Trap-default.is, c.in-Ok-Trap-default.field-0-0-is) at c.run_to_stop.ensures.stops in
    one_more _ _ _ _ _ _ (c.if-count-eq0.false) end

pub returns-in-Err-clause-steps : goal.returns-in-Err-clause-steps
returns-in-Err-clause-steps g c =
    let reaches = rw c.in-Err.is at c.run_to_stop.ensures.reaches in
    one_waits _ _ _ _ reaches

pub returns-in-Err-clause-grows : goal.returns-in-Err-clause-grows
returns-in-Err-clause-grows g c = λ refused.
    let reaches = rw c.in-Err.is at c.run_to_stop.ensures.reaches in
    let grows = rw c.in-Err.is at c.run_to_stop.ensures.grows in
    let same = one_waits _ _ _ _ reaches in
    rw (sym same.1, sym same.2) grows
