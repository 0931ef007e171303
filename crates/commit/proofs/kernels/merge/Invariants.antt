use Rattle.std.proofs.Common.{◌≡◌, ◌*◌}
use Rattle.commit.proofs.Blocks.{merged_below}
use Rattle.commit.proofs.kernels.merge.Given as goal

abbrev pub invariant-loop-block : goal.invariant-loop-block
invariant-loop-block l = l.now ≡ merged_below (l.block * 32) l.initial.now l.copy l.mine
