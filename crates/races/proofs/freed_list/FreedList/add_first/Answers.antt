use Rattle.std.proofs.Common.{◌∷◌, [], ◌++◌, ◌∙◌, List, ℕ, ap, sym}
use Rattle.races.proofs.FreedListed.{numbered}
use Rattle.races.proofs.freed_list.FreedList.add_first.Goals as goal

pub returns-clause-numbered : goal.returns-clause-numbered
returns-clause-numbered c none =
    numbered c.args.self.now.words c.insert.new.self c.args.word c.args.number c.push.new.self c.in_ok-insert.ensures.updates.0
    (c.in_ok-push.ensures.items ∙ ap (λ (list : List ℕ). list ++ c.args.number ∷ []) (c.new-numbers.ensures.items ∙ sym none))
