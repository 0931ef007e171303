use Rattle.std.proofs.Common.{◌≡◌, ◌+◌, ◌*◌, arith}
use Rattle.commit.proofs.Blocks.{merged_below-more}
use Rattle.commit.proofs.kernels.merge.Goals as goal

pub loop-block-preserved : goal.loop-block-preserved
loop-block-preserved c =
    let e : (c.loop-block.block + 1) * 32 ≡ c.loop-block.block * 32 + 32 = omega arith in
    rw (e, c.merge_block.ensures, c.loop-block.invariant)
    (merged_below-more c.args.now.now c.args.copy.now c.args.mine.now (c.loop-block.block * 32) 32 (omega arith) (omega arith) (omega arith))
