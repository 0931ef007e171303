use Rattle.std.proofs.Common.{ap}
use Rattle.std.proofs.lemmas.Simd.{length-chunk}
use Rattle.commit.proofs.Blocks.{block-merged}
use lib.Lanes.{chunk, put_chunk}
use Rattle.commit.proofs.kernels.merge_block.Goals as goal

pub returns : goal.returns
returns c =
    ap (put_chunk c.args.at c.args.now.now)
    (block-merged (chunk c.args.at 32 c.args.now.now) (chunk c.args.at 32 c.args.copy.now) (chunk c.args.at 32 c.args.mine.now)
    (length-chunk c.args.at 32 c.args.now.now c.requires.now) (length-chunk c.args.at 32 c.args.copy.now c.requires.within.copy) (length-chunk c.args.at 32 c.args.mine.now c.requires.within.mine))
