use Rattle.std.proofs.Common.{ℕ, arith, length, subst}
use Rattle.std.proofs.lemmas.List.{length_push}
use Rattle.races.specs.Clocks.{IsAfterOrder, time_at, time_kept}
use Rattle.races.specs.Steps.{Step}
use Rattle.races.specs.Steps.Step.{Order}
use Rattle.races.proofs.Follow.{after_order}
use Rattle.races.proofs.Mapped.{words_ordered}
use Rattle.races.proofs.Repeated.{recent_forgotten}
use Rattle.races.proofs.steps.Steps.order.Goals as goal

pub returns : goal.returns
returns c steps knows =
    let step : Step = Order c.args.acquired.now c.args.released.now in
    let more = c.in_ok-more.ensures.more in
    let count = knows.count in
    let clocks = c.args.self.now.clocks in
    let after : IsAfterOrder (time_kept clocks) (time_kept c.order.new.self) (time_at clocks (length steps)) c.args.acquired.now c.args.released.now =
    subst (λ (n : ℕ). IsAfterOrder (time_kept clocks) (time_kept c.order.new.self) (time_at clocks n) c.args.acquired.now c.args.released.now) count c.in_ok-order.ensures in
    let times = after_order steps (time_kept clocks) knows.times (time_kept c.order.new.self) c.args.acquired.now c.args.released.now after in
    record {
      count = omega (arith, length_push steps step);
      times = times;
      recent = recent_forgotten c.args.self.now.recent c.forget_before.new.self clocks c.order.new.self steps step (omega arith) c.forget_before.ensures.slots
          (λ place thread. let bound = times.bound place thread in let long = length_push steps step in omega arith) knows.recent;
      words = words_ordered steps step c.args.self.now.words.pages.pages.items c.args.self.now.words.races.words (λ access is. cc is) (λ word place renews. renews) knows.words;
    }
