use Rattle.std.proofs.lemmas.Simd.{length-chunk}
use Rattle.commit.proofs.Blocks.{block-count}
use lib.Lanes.{chunk}
use Rattle.commit.proofs.kernels.count_block.Goals as goal

pub returns : goal.returns
returns c =
    block-count (chunk c.args.at 32 c.args.copy.now) (chunk c.args.at 32 c.args.mine.now)
    (length-chunk c.args.at 32 c.args.copy.now c.requires.copy) (length-chunk c.args.at 32 c.args.mine.now c.requires.mine)
