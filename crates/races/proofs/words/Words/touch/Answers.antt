use Rattle.std.proofs.Common.{◌≡◌, ◌∙◌, ℕ, List, ap, length, subst}
use Rattle.std.proofs.lemmas.Result.{on_ok_weaker}
use Rattle.races.specs.Words.{IsKept, PageList, latest_at}
use Rattle.races.specs.declared.latest.Latest.{Latest}
use Rattle.races.specs.declared.pages.Pages.{Pages}
use Rattle.races.proofs.Kept.{latest_kept}
use Rattle.races.proofs.Mapped.{words_touched}
use Rattle.races.proofs.words.Words.touch.Goals as goal

pub returns : goal.returns
returns c =
    let access = c.args.access.now in
    let words = c.args.self.now in
    let old : PageList = words.pages.pages.items in
    let new : PageList = c.keep.new.self.pages.items in
    let same : (word : ℕ) → latest_at c.find.new.self.pages.pages.items word ≡ latest_at old word = λ word. ap (λ (pages : Pages). latest_at pages.pages.items word) c.in_ok-find.ensures.pages in
    on_ok_weaker c.keep.result
    (λ kept steps knows times step.
    let found = c.in_ok-find.ensures.own steps knows times step in
    let put = subst (λ (n : ℕ). IsKept (record { site = access.site; bytes = access.bytes; step = n }) (latest_at c.find.new.self.pages.pages.items access.word) (latest_at new access.word)) step kept.own in
    let put_old = subst (λ (latest : List Latest). IsKept (record { site = access.site; bytes = access.bytes; step = length steps }) latest (latest_at new access.word)) (same access.word) put in
    words_touched steps access old new words.races.words c.find.new.self.races.words
    (record { accesses = latest_kept steps access (latest_at old access.word) (latest_at new access.word) put_old (knows access.word).accesses; races = found })
    (λ other apart. kept.others other apart ∙ same other) c.in_ok-find.ensures.others knows)
    c.keep.ensures
