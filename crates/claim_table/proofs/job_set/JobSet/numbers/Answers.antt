use Rattle.std.proofs.Common.{◌≡◌, ◌∙◌, arith, ap, ℕ}
use Rattle.claim_table.specs.Seat.{members}
use Rattle.claim_table.proofs.job_set.JobSet.numbers.Goals as goal

pub returns : goal.returns
returns c =
    let all : c.loop-number.number ≡ 256 = omega (arith, c.loop-number-test.false, c.loop-number.auto.number-end) in
    c.loop-number.invariant ∙ ap (λ (n : ℕ). members n c.args.self.now.marks) all
