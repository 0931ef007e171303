use Rattle.std.proofs.Common.{◌≡◌, map, take}
use Rattle.std.specs.List.{enumerate_from}
use Rattle.core_file.specs.Shown.{core_thread}
use Rattle.core_file.proofs.threads.in_order.Given as goal

abbrev pub invariant-loop-number : goal.invariant-loop-number
invariant-loop-number l = l.shown.items ≡ map (λ row. core_thread l.outcome row.0 row.1) (enumerate_from 0 (take l.number l.threads))
