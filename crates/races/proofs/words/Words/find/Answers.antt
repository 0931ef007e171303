use Rattle.std.proofs.Common.{◌≡◌, ℕ, List, subst, sym}
use Rattle.std.proofs.lemmas.Result.{on_ok_weaker}
use Rattle.races.specs.Linked.{latest_in}
use Rattle.races.specs.Words.{IsFinding, KnowsLatest, found_at, latest_at}
use Rattle.races.specs.declared.latest.Latest.{Latest}
use Rattle.races.specs.declared.page_history.PageHistory.{PageHistory}
use Rattle.races.proofs.Found.{finding_all, finding_none}
use Rattle.races.proofs.words.Words.find.Goals as goal

pub returns-in-Some-clause-own : goal.returns-in-Some-clause-own
returns-in-Some-clause-own c =
    let access = c.args.access.now in
    let clocks = c.args.clocks.now in
    let latest : List Latest = latest_at c.args.self.now.pages.pages.items access.word in
    let page : PageHistory = c.in-Some.page.now in
    let same : latest_in page.entries.items c.place_of.result ≡ latest = subst (λ (n : ℕ). latest_in page.entries.items n ≡ latest) (sym c.place_of.ensures) c.in-Some.ensures in
    on_ok_weaker c.find_races.result
    (λ own steps knows times step.
    let known = knows access.word in
    let found = found_at c.find_races.new.races.words access.word in
    finding_all steps access clocks latest found times known.accesses
    (subst (λ (all : List Latest). IsFinding steps access clocks all found) same
    (own steps (subst (λ (all : List Latest). KnowsLatest steps access.word all) (sym same) known.accesses) times step (finding_none steps access clocks (found_at c.args.self.now.races.words access.word) known.races))))
    c.find_races.ensures.own

pub returns-in-None-clause-own : goal.returns-in-None-clause-own
returns-in-None-clause-own c = λ steps knows times step.
    let access = c.args.access.now in
    let clocks = c.args.clocks.now in
    let known = knows access.word in
    let found = found_at c.args.self.now.races.words access.word in
    finding_all steps access clocks (latest_at c.args.self.now.pages.pages.items access.word) found times known.accesses
    (subst (λ (all : List Latest). IsFinding steps access clocks all found) (sym c.in-None.ensures) (finding_none steps access clocks found known.races))
