use Rattle.std.proofs.Common.{◌≡◌, ◌*◌, ◌++◌, take}
use Rattle.commit.specs.Bytes.{differing_from}
use Rattle.commit.proofs.kernels.push_differing.Given as goal

abbrev pub invariant-loop-block : goal.invariant-loop-block
invariant-loop-block l = l.numbers.items ≡ l.fn.numbers.items ++ differing_from l.first (take (l.block * 32) l.copy) (take (l.block * 32) l.mine)
