use Rattle.std.proofs.Common.{◌∙◌, ap, arith}
use Rattle.std.proofs.lemmas.Bool.Decides.{nat_tests}
use Rattle.claim_table.specs.Seat.{SeatState}
use Rattle.phase_jobs.proofs.Runs.{looks_at, saw_below, saw_none_below, saw_nothing}
use Rattle.phase_jobs.proofs.shared_jobs.SharedJobs.is_unwanted.Goals as goal

pub returns-in-Some-clause-looks : goal.returns-in-Some-clause-looks
returns-in-Some-clause-looks c = looks_at _ _ _ c.in-Some.ensures.log

pub returns-in-Some-clause-below : goal.returns-in-Some-clause-below
returns-in-Some-clause-below c is = saw_below _ _ _ _ c.in-Some.ensures.log (grind (arith, nat_tests, is))

pub returns-in-Some-clause-none : goal.returns-in-Some-clause-none
returns-in-Some-clause-none c is = saw_none_below _ _ _ _ c.in-Some.ensures.log c.in-Some.ensures.least (grind (arith, nat_tests, is))

pub returns-in-None-clause-none : goal.returns-in-None-clause-none
returns-in-None-clause-none c is = saw_nothing _ _ (ap (λ (s : SeatState). s.log.seen) c.in-None.ensures.log ∙ c.in-None.ensures.none.1)
