use Rattle.std.proofs.Common.{ℕ, arith, subst}
use Rattle.std.proofs.lemmas.List.{length_push}
use Rattle.races.specs.Clocks.{time_kept}
use Rattle.races.specs.Recent.{IsSlotOf}
use Rattle.races.specs.Steps.{Step}
use Rattle.races.specs.Steps.Step.{Touch}
use Rattle.races.proofs.Follow.{after_touch}
use Rattle.races.proofs.Repeated.{recent_touched, steps_again}
use Rattle.races.proofs.steps.Steps.touch.Goals as goal

-- one of the recent accesses, made again
pub returns-then-has : goal.returns-then-has
returns-then-has c steps knows = steps_again c.args.self.now c.in_ok-more.more c.args.access.now steps c.in_ok-more.ensures.more (c.has.ensures c.if-has.true) knows

pub returns : goal.returns
returns c steps knows =
    let access = c.args.access.now in
    let kept = c.args.self.now in
    let step : Step = Touch access in
    let more = c.in_ok-more.ensures.more in
    let count = knows.count in
    record {
      count = omega (arith, length_push steps step);
      times = after_touch steps (time_kept kept.clocks) knows.times access;
      recent = recent_touched kept.recent c.note.new.self kept.clocks steps access c.note.ensures.since (λ slot among. subst (λ (n : ℕ). IsSlotOf kept.recent.slots.items kept.recent.since access n slot) count (c.note.ensures.noted slot among)) knows.recent;
      words = c.in_ok-touch.ensures steps knows.words knows.times count;
    }
