use Rattle.std.proofs.Common.{◌∷◌, [], ◌++◌, ◌∙◌, ℕ, ap, subst}
use Rattle.std.specs.Prelude.{Vec}
use Rattle.std.specs.declared.alloc.Global.{Global}
use Rattle.races.specs.FreedRecording.{IsNumbered}
use Rattle.races.specs.declared.freed_access.FreedAccess.{FreedAccess}
use Rattle.races.proofs.FreedListed.{listed_more}
use Rattle.races.proofs.freed_list.FreedList.push.Goals as goal

pub returns-clause-listed : goal.returns-clause-listed
returns-clause-listed c listed =
    let list = c.args.self.now in
    let one = c.args.one in
    let words = c.add_number.new.self.words in
    listed_more list.told.items c.push.new.self.items one list.words words
    (c.in_ok-push.ensures.items ∙ ap (λ (told : Vec FreedAccess Global). told.items ++ one ∷ []) c.in_ok-add_number.ensures.told)
    (subst (λ (n : ℕ). IsNumbered list.words one.word n words) c.count-number.ensures c.in_ok-add_number.ensures.numbered) listed
