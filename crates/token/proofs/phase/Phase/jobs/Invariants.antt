use Rattle.std.proofs.Common.{◌≡◌, ◌≤◌, length, take}
use Rattle.token.specs.Segments.{jobs_of}
use Rattle.token.proofs.phase.Phase.jobs.Given as goal

abbrev pub invariant-loop-thread : goal.invariant-loop-thread
invariant-loop-thread l = (l.jobs.items ≡ jobs_of l.self.threads (take l.thread-index l.self.list.items)) × (length l.jobs.items ≤ l.thread-index)
