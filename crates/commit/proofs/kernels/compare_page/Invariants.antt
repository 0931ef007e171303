use Rattle.std.proofs.Common.{◌≡◌, ◌+◌, ◌*◌, ◌%◌, ◌<◌, ◌≤◌, take}
use Rattle.commit.specs.Bytes.{differing_count}
use Rattle.commit.specs.Groups.{differing_in}
use Rattle.commit.proofs.kernels.compare_page.Given as goal

abbrev pub invariant-loop-group : goal.invariant-loop-group
invariant-loop-group l =
    (l.count ≡ differing_count (take (l.group * 128) l.copy) (take (l.group * 128) l.mine)) × (l.last + 128 ≤ 4096) × (l.last % 128 ≡ 0)
    × (0 < l.count → 0 < differing_in l.last l.copy l.mine)
