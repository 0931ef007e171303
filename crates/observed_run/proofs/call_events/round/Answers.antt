use Rattle.std.proofs.Common.{◌∙◌, ◌++◌, ◌∷◌, [], ap, List, ℕ}
use Rattle.std.proofs.lemmas.Result.{IfOk-weaker}
use Rattle.observed_run.proofs.call_events.round.Goals as goal

pub returns : goal.returns
returns c =
    let thread : ℕ = c.args.ended.now.actor.thread in
    let items = c.in_ok-push.ensures.items ∙ ap (λ (threads : List ℕ). threads ++ thread ∷ []) c.in_ok-threads.ensures.items in
    IfOk-weaker c.one.result _ _ (λ events is. (c.push.new.self, items, is)) c.one.ensures
