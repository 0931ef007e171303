use Rattle.std.proofs.Common.{◌≡◌, ◌+◌, ◌++◌, ℕ, sym, ◌∙◌, ap, arith}
use Rattle.std.proofs.lemmas.List.{append-nil, append_assoc}
use lib.Lanes.{chunk}
use Rattle.commit.specs.Bytes.{differing_from}
use Rattle.commit.proofs.Blocks.{differing_from-lane, differing_from-empty, differing_from-same, differing_from-one, differing_from-none}
use Rattle.commit.proofs.kernels.push_block.Goals as goal
use Rattle.commit.proofs.kernels.push_block.Goals.{then-copy-at+in_ok-push, else-copy-at}

pub returns-then-count_block-eq0 : goal.returns-then-count_block-eq0
returns-then-count_block-eq0 c =
    rw (differing_from-none (c.args.first + c.args.at) (chunk c.args.at 32 c.args.copy.now) (chunk c.args.at 32 c.args.mine.now) (sym c.count_block.ensures ∙ c.if-count_block-eq0.true))
    (sym (append-nil c.args.numbers.now.items))

pub loop-lane-init : goal.loop-lane-init
loop-lane-init c = rw (differing_from-empty (c.args.first + c.args.at)) (sym (append-nil c.args.numbers.now.items))

pub loop-lane-preserved : goal.loop-lane-preserved
loop-lane-preserved c =
    let e : c.args.first + (c.args.at + c.loop-lane.lane) ≡ c.args.first + c.args.at + c.loop-lane.lane = omega arith in
    rw (differing_from-lane (c.args.first + c.args.at) c.args.copy.now c.args.mine.now c.args.at c.loop-lane.lane (omega arith) (omega arith), ← append_assoc, ← c.loop-lane.invariant)
    (elim c.if-copy-at.branch [
      | then-copy-at+in_ok-push w ↦ rw (w.numbers-is, differing_from-one _ _ _ w.if-copy-at.true, ← e) w.in_ok-push.ensures.items
      | else-copy-at w ↦ rw (w.numbers-is, differing_from-same _ _ _ w.if-copy-at.false) (sym (append-nil c.loop-lane.numbers.items))
    ])

pub returns : goal.returns
returns c =
    let e : c.loop-lane.lane ≡ 32 = omega arith in
    c.loop-lane.invariant
    ∙ ap (λ (count : ℕ). c.args.numbers.now.items ++ differing_from (c.args.first + c.args.at) (chunk c.args.at count c.args.copy.now) (chunk c.args.at count c.args.mine.now)) e
