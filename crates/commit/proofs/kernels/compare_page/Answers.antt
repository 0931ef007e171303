use Rattle.std.proofs.Common.{◌≡◌, ◌+◌, ◌*◌, ◌≤◌, length, take, arith}
use Rattle.std.proofs.lemmas.List.{length-take-le}
use Rattle.commit.specs.Bytes.{differing_count}
use Rattle.commit.specs.Groups.{differing_in}
use Rattle.commit.proofs.Blocks.{differing_count-small, differing_count-more}
use Rattle.commit.proofs.kernels.compare_page.Goals as goal
use Rattle.commit.proofs.kernels.compare_page.Goals.{then-differing-gt0, else-differing-gt0}

pub overflow_add-count : goal.overflow_add-count
overflow_add-count c =
    let small : differing_count (take (c.loop-group.group * 128 + 128) c.args.copy.now) (take (c.loop-group.group * 128 + 128) c.args.mine.now) ≤ length (take (c.loop-group.group * 128 + 128) c.args.copy.now) = differing_count-small _ _ in
    let more = differing_count-more c.args.copy.now c.args.mine.now (c.loop-group.group * 128) 128 (omega arith) (omega arith) in
    let size : length (take (c.loop-group.group * 128 + 128) c.args.copy.now) ≡ c.loop-group.group * 128 + 128 = length-take-le _ _ (omega arith) in
    record { fits = omega arith }

pub loop-group-preserved : goal.loop-group-preserved
loop-group-preserved c =
    let e : (c.loop-group.group + 1) * 128 ≡ c.loop-group.group * 128 + 128 = omega arith in
    let more = differing_count-more c.args.copy.now c.args.mine.now (c.loop-group.group * 128) 128 (omega arith) (omega arith) in
    let here : c.count_group-differing.result ≡ differing_in (c.loop-group.group * 128) c.args.copy.now c.args.mine.now = c.count_group-differing.ensures in
    rw (e, more)
    (elim c.if-differing-gt0.branch [
      | then-differing-gt0 w ↦ rw (w.count-is, w.last-is) (omega (arith, here), omega arith, omega arith, λ some. omega (arith, here))
      | else-differing-gt0 w ↦ rw (w.count-is, w.last-is)
          (omega (arith, here), c.loop-group.invariant.1, c.loop-group.invariant.2, c.loop-group.invariant.3)
    ])
