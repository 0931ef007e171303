use Rattle.std.proofs.Common.{◌≡◌, ◌∙◌, ◌<◌, ap, sym, arith, None}
use Rattle.hart.specs.Segment.{stop_of}
use Rattle.schedule.specs.Phase.{advanced}
use Rattle.schedule_core.specs.Underway.{progress_of, limit_at}
use Rattle.schedule_core.proofs.Coming.{goes_further, stops_at_limit, stops_by_next, counts_step, counts_stop, step_left}
use Rattle.schedule_core.proofs.stepped_segment.SteppedSegment.go_on.Goals as goal

pub returns-in-Some-clause-underway : goal.returns-in-Some-clause-underway
returns-in-Some-clause-underway c = stops_at_limit _ _ _ _ _ _ _ c.requires.underway (sym c.limit.ensures ∙ c.in-Some.is)

pub returns-in-Some-clause-ok : goal.returns-in-Some-clause-ok
returns-in-Some-clause-ok c =
    sym (counts_stop _ _ _ _ _ _ (progress_of c.args.self.now) (stops_at_limit _ _ _ _ _ _ _ c.requires.underway (sym c.limit.ensures ∙ c.in-Some.is)))

pub overflow_add-self : goal.overflow_add-self
overflow_add-self c =
    let free : limit_at c.args.self.now.work.segment c.args.self.now.steps ≡ None = sym c.limit.ensures ∙ c.in_default.is in
    let left : c.args.self.now.steps < c.args.self.now.work.segment.left = step_left c.args.self.now.work.segment c.args.self.now.steps free c.requires.underway.within in
    let bounded = c.requires.underway.bounded in
    omega arith

pub returns-in-Next-clause-underway : goal.returns-in-Next-clause-underway
returns-in-Next-clause-underway c =
    rw c.in-Next.ensures.base
    (goes_further _ _ _ _ _ _ _ _ c.requires.underway c.requires.goes (sym c.limit.ensures ∙ c.in_default.is) c.in-Next.ensures.steps)

pub returns-in-Next-clause-ok : goal.returns-in-Next-clause-ok
returns-in-Next-clause-ok c =
    ap (λ verdict. advanced verdict (progress_of c.args.self.now))
    (sym (counts_step _ _ _ _ _ _ _ _ c.requires.underway (sym c.limit.ensures ∙ c.in_default.is) c.in-Next.ensures.steps))

pub returns-in-Ecall-clause-underway : goal.returns-in-Ecall-clause-underway
returns-in-Ecall-clause-underway c =
    let steps = c.in-Ecall.ensures.steps in
    rw (c.in-Ecall.ensures.base, steps.1, steps.2)
    (stops_by_next _ _ _ _ _ _ _ c.requires.underway (sym c.limit.ensures ∙ c.in_default.is) (ap stop_of steps.0))

pub returns-in-Ecall-clause-ok : goal.returns-in-Ecall-clause-ok
returns-in-Ecall-clause-ok c =
    sym (counts_stop _ _ _ _ _ _ (progress_of c.args.self.now)
    (stops_by_next _ _ _ _ _ _ _ c.requires.underway (sym c.limit.ensures ∙ c.in_default.is) (ap stop_of c.in-Ecall.ensures.steps.0)))

pub returns-in-Trap-clause-underway : goal.returns-in-Trap-clause-underway
returns-in-Trap-clause-underway c =
    let steps = c.in-Trap.ensures.steps in
    rw (c.in-Trap.ensures.base, steps.1, steps.2)
    (stops_by_next _ _ _ _ _ _ _ c.requires.underway (sym c.limit.ensures ∙ c.in_default.is) (ap stop_of steps.0))

pub returns-in-Trap-clause-ok : goal.returns-in-Trap-clause-ok
returns-in-Trap-clause-ok c =
    sym (counts_stop _ _ _ _ _ _ (progress_of c.args.self.now)
    (stops_by_next _ _ _ _ _ _ _ c.requires.underway (sym c.limit.ensures ∙ c.in_default.is) (ap stop_of c.in-Trap.ensures.steps.0)))
