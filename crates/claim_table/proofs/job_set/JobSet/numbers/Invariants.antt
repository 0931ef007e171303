use Rattle.std.proofs.Common.{◌≡◌}
use Rattle.claim_table.specs.Seat.{members}
use Rattle.claim_table.proofs.job_set.JobSet.numbers.Given as goal

abbrev pub invariant-loop-number : goal.invariant-loop-number
invariant-loop-number l = l.numbers.items ≡ members l.number l.self.marks
