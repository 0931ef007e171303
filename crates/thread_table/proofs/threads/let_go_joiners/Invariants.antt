use Rattle.std.proofs.Common.{◌≡◌, ◌++◌, map, take, drop}
use Rattle.thread_table.specs.Thread.{let_go}
use Rattle.thread_table.proofs.threads.let_go_joiners.Given as goal

abbrev pub invariant-loop-thread : goal.invariant-loop-thread
invariant-loop-thread l =
    l.threads ≡ map (let_go l.n) (take l.thread-index l.initial.threads) ++ drop l.thread-index l.initial.threads
