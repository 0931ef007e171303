use Rattle.std.proofs.Common.{◌≡◌, ◌+◌, ◌*◌, ◌≤◌, length, arith}
use Rattle.std.proofs.lemmas.Simd.{length-chunk}
use lib.Lanes.{chunk}
use Rattle.commit.specs.Bytes.{differing_count}
use Rattle.commit.proofs.Blocks.{differing_count-small}
use Rattle.commit.proofs.Groups.{count-more}
use Rattle.commit.proofs.kernels.count_group.Goals as goal

pub overflow_add-count : goal.overflow_add-count
overflow_add-count c =
    let more = count-more c.args.copy.now c.args.mine.now c.args.at (c.loop-block.block * 32) 32 (omega arith) (omega arith) in
    let small : differing_count (chunk c.args.at (c.loop-block.block * 32 + 32) c.args.copy.now) (chunk c.args.at (c.loop-block.block * 32 + 32) c.args.mine.now) ≤ length (chunk c.args.at (c.loop-block.block * 32 + 32) c.args.copy.now) = differing_count-small _ _ in
    let size : length (chunk c.args.at (c.loop-block.block * 32 + 32) c.args.copy.now) ≡ c.loop-block.block * 32 + 32 = length-chunk c.args.at _ c.args.copy.now (omega arith) in
    record { fits = omega arith }

pub loop-block-preserved : goal.loop-block-preserved
loop-block-preserved c =
    let e : (c.loop-block.block + 1) * 32 ≡ c.loop-block.block * 32 + 32 = omega arith in
    rw (e, count-more c.args.copy.now c.args.mine.now c.args.at (c.loop-block.block * 32) 32 (omega arith) (omega arith)) (omega arith)
