use Rattle.std.proofs.Common.{◌≡◌, ◌+◌, ◌++◌}
use lib.Lanes.{chunk}
use Rattle.commit.specs.Bytes.{differing_from}
use Rattle.commit.proofs.kernels.push_block.Given as goal

abbrev pub invariant-loop-lane : goal.invariant-loop-lane
invariant-loop-lane l =
    l.numbers.items ≡ l.fn.numbers.items ++ differing_from (l.first + l.at) (chunk l.at l.lane l.copy) (chunk l.at l.lane l.mine)
