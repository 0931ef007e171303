use Rattle.std.proofs.Common.{◌≡◌, ◌∙◌, Some, ap, sym}
use Rattle.std.specs.Ordering.{nat_cmp}
use Rattle.std.specs.BTreeMap.{get}
use Rattle.races.specs.FreedRecording.{numbers_by}
use Rattle.races.proofs.FreedListed.{listed_one}
use Rattle.races.proofs.freed_list.FreedList.tells.Goals as goal

pub returns-in-Some-clause-none : goal.returns-in-Some-clause-none
returns-in-Some-clause-none c unfound listed one among tells =
    let list = c.args.self.now in
    let found : Some c.in-Some.numbers.now ≡ get nat_cmp list.words c.args.access.now.word = rw c.in-Some.is at c.get.ensures.value in
    c.tells.ensures.none unfound one
    (listed_one list.told.items c.deref.result.now list.words c.args.access.now.word c.deref-in-Some.result.now one c.deref.ensures.value (c.deref-in-Some.ensures.value ∙ ap numbers_by found) listed among tells.word_is) tells
