use Rattle.std.proofs.Common.{◌≡◌, ◌+◌, ◌*◌, ◌++◌, List, ℕ, sym, ◌∙◌, ap, arith}
use Rattle.std.proofs.lemmas.List.{append-nil, append_assoc}
use lib.Lanes.{chunk}
use Rattle.commit.specs.Bytes.{differing_from}
use Rattle.commit.proofs.Blocks.{differing_from-more, differing_from-empty}
use Rattle.commit.proofs.kernels.push_differing.Goals as goal

pub loop-block-init : goal.loop-block-init
loop-block-init c = rw (differing_from-empty c.args.first) (sym (append-nil c.args.numbers.now.items))

pub loop-block-preserved : goal.loop-block-preserved
loop-block-preserved c =
    let e : (c.loop-block.block + 1) * 32 ≡ c.loop-block.block * 32 + 32 = omega arith in
    rw (e, differing_from-more c.args.first (c.loop-block.block * 32) 32 c.args.copy.now c.args.mine.now (omega arith) (omega arith), ← append_assoc)
    (c.in_ok-push_block.ensures ∙ ap (λ (done : List ℕ). done ++ differing_from (c.args.first + c.loop-block.block * 32) (chunk (c.loop-block.block * 32) 32 c.args.copy.now) (chunk (c.loop-block.block * 32) 32 c.args.mine.now)) c.loop-block.invariant)
