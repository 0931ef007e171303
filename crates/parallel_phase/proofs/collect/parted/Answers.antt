use Rattle.std.proofs.Common.{◌∙◌, sym, subst, List, All}
use Rattle.std.proofs.lemmas.List.Elements.{All-cons}
use Rattle.parallel_phase.specs.Work.{WorkState}
use Rattle.parallel_phase.specs.Outcomes.{IsWhole}
use Rattle.parallel_phase.proofs.Fates.{seats_step, drawn_step}
use Rattle.parallel_phase.proofs.collect.parted.Goals as goal

pub loop-work-preserved : goal.loop-work-preserved
loop-work-preserved c =
    let kept = c.loop-work.invariant in
    let split = c.in-Some.ensures.steps.0 in
    let parts = c.in_ok-seat.ensures.parts in
    record {
      whole = λ rest. kept.whole (subst (λ (works : List WorkState). All IsWhole works) (sym split) (All-cons IsWhole _ _ c.in_ok-seat.ensures.whole rest));
      seats = seats_step _ _ _ _ _ _ split parts.0 c.in_ok-push.ensures.items ∙ kept.seats;
      drawn = drawn_step _ _ _ _ _ _ split parts.1 c.in_ok-append.ensures.items ∙ kept.drawn;
    }
