use Rattle.std.proofs.Common.{eqb-true}
use Rattle.commit.proofs.Groups.{same-group}
use Rattle.commit.proofs.kernels.is_same.Goals as goal

pub returns : goal.returns
returns c same =
    same-group c.args.copy.now c.args.mine.now c.args.at c.requires.copy c.requires.mine
    (rw (← c.differences.ensures, ← c.differences-2.ensures, ← c.differences-3.ensures, ← c.differences-4.ensures) (eqb-true _ _ same))
