use Rattle.std.proofs.Common.{◌≡◌, ◌<◌, length, All}
use Rattle.parallel_phase.specs.declared.drawn.Drawn.{Drawn}
use Rattle.parallel_phase.specs.Outcomes.{filed}
use Rattle.parallel_phase.proofs.collect.file.Given as goal

abbrev pub invariant-loop-job : goal.invariant-loop-job
invariant-loop-job l = record {
  inside : All (λ (job : Drawn). job.number < length l.outcomes) l.job-iterator.rest.items;
  filed_is : filed l.outcomes l.job-iterator.rest.items ≡ filed l.fn.outcomes l.fn.drawn.items;
}
