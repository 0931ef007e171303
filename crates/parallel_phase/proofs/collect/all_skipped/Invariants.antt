use Rattle.std.proofs.Common.{◌≡◌, length, All}
use Rattle.parallel_phase.specs.declared.outcome.Outcome.TheVariants.{Skipped}
use Rattle.parallel_phase.proofs.collect.all_skipped.Given as goal

abbrev pub invariant-loop : goal.invariant-loop
invariant-loop l = (length l.outcomes.items ≡ l.counter) × All (λ outcome. outcome ≡ Skipped) l.outcomes.items
