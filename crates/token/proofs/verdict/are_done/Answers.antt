use Rattle.std.proofs.Common.{sym, add-one}
use Rattle.token.proofs.Committing.{not_all_done, more_done}
use Rattle.token.proofs.verdict.are_done.Goals as goal

pub returns-then-not-is_done : goal.returns-then-not-is_done
returns-then-not-is_done c =
    sym (not_all_done c.args.threads.now c.loop-number.number c.get.result.now c.get.ensures (sym c.if-not-is_done.ensures))

pub loop-number-preserved : goal.loop-number-preserved
loop-number-preserved c =
    rw add-one (more_done c.args.threads.now c.loop-number.number c.get.result.now c.get.ensures (sym c.if-not-is_done.ensures) c.loop-number.invariant)
