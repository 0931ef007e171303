use Rattle.std.proofs.Common.{◌≡◌, ◌∷◌, [], ◌++◌, ◌∙◌, List, Some, Option, ℕ, ap, refl, sym, subst}
use Rattle.std.specs.Option.{IsSome}
use Rattle.std.specs.Ordering.{nat_cmp}
use Rattle.std.specs.BTreeMap.{get}
use Rattle.std.specs.Prelude.{Vec}
use Rattle.std.specs.declared.alloc.Global.{Global}
use Rattle.std.proofs.lemmas.Result.{on_ok_weaker}
use Rattle.races.specs.FreedRecording.{numbers_by}
use Rattle.races.proofs.FreedListed.{numbered}
use Rattle.races.proofs.freed_list.FreedList.add_number.Goals as goal

pub returns-in_ok-push-in-Some-clause-numbered : goal.returns-in_ok-push-in-Some-clause-numbered
returns-in_ok-push-in-Some-clause-numbered c =
    let words = c.args.self.now.words in
    let found : Some c.in-Some.numbers.now ≡ get nat_cmp words c.args.word = rw c.in-Some.is at c.get_mut.ensures.value in
    numbered words (c.get_mut.follows.lender c.push.new.self) c.args.word c.args.number c.push.new.self
    (λ other. ((c.get_mut.follows.holds c.push.new.self).3 (subst (λ (one : Option (Vec ℕ Global)). IsSome one) found refl)).0 other)
    (c.in_ok-push-in-Some.ensures.items ∙ ap (λ (list : List ℕ). list ++ c.args.number ∷ []) (ap numbers_by found))
