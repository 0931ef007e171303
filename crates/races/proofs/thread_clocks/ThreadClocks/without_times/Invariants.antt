use Rattle.std.proofs.Common.{◌≡◌, ℕ, vec_len}
use Rattle.races.specs.Clocks.{time_of}
use Rattle.races.proofs.thread_clocks.ThreadClocks.without_times.Given as goal

abbrev pub invariant-loop-count : goal.invariant-loop-count
invariant-loop-count l = (vec_len l.clocks ≡ l._count) × ((key thread : ℕ) → time_of l.clocks.items key thread ≡ 0)
