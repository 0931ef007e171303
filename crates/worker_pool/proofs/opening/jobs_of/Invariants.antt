use Rattle.std.proofs.Common.{◌≡◌, take}
use Rattle.token.specs.RunInTurn.{point_of}
use Rattle.worker_pool.specs.Jobs.{jobs_in}
use Rattle.worker_pool.proofs.opening.jobs_of.Given as goal

abbrev pub invariant-loop-thread : goal.invariant-loop-thread
invariant-loop-thread g l =
    l.jobs.items ≡ jobs_in (point_of l.serial).setup (point_of l.serial).phase (point_of l.serial).base_threads (take l.thread-index l.threads)
