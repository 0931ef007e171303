use Rattle.std.proofs.Common.{◌≡◌, ◌*◌}
use lib.Lanes.{chunk}
use Rattle.commit.specs.Bytes.{differing_count}
use Rattle.commit.proofs.kernels.count_group.Given as goal

abbrev pub invariant-loop-block : goal.invariant-loop-block
invariant-loop-block l = l.count ≡ differing_count (chunk l.at (l.block * 32) l.copy) (chunk l.at (l.block * 32) l.mine)
