use Rattle.std.proofs.Common.{◌∙◌, ap}
use Rattle.std.proofs.lemmas.Result.{on_ok_weaker}
use Rattle.races.specs.Holding.{held_after}
use Rattle.races.specs.declared.holdings.Holdings.{Holdings}
use Rattle.races.proofs.Locking.{orders_more}
use Rattle.races.proofs.lock_order.LockOrder.take.Goals as goal

pub returns-clause-more : goal.returns-clause-more
returns-clause-more c =
    on_ok_weaker c.note.result
    (λ held.
    orders_more c.args.self.now (record c.acquire.new.self { holdings = c.note.new.self }) c.args.hint.now
    (held ∙ ap (λ (all : Holdings). held_after all.held.items c.args.hint.now) c.acquire.ensures.holdings) c.in_ok-acquire.ensures.crossings)
    c.note.ensures
