use Rattle.std.proofs.Common.{arith, ◌≡◌, ◌-◌, ◌∙◌, ℕ, ap, refl, subst, sym}
use Rattle.std.specs.Prelude.{◌≢◌}
use Rattle.races.specs.Linked.{IsAt, latest_in}
use Rattle.races.specs.Words.{found_at}
use Rattle.races.specs.declared.kept_access.KeptAccess.{KeptAccess}
use Rattle.races.proofs.Found.{finding_unhit}
use Rattle.races.proofs.Linked.{HasFound, IsOf, first_of, found_all, found_next, found_none, in_latest, next_of, same_at}
use Rattle.races.proofs.page_history.PageHistory.find_races.Goals as goal

pub loop-number-init : goal.loop-number-init
loop-number-init c =
    let page = c.args.self.now in
    let entries = page.entries.items in
    let place = c.args.place in
    let found = found_at c.args.races.now.words c.args.access.now.word in (
      subst (λ (n : ℕ). IsOf entries place n) (sym c.first-number.ensures) (first_of page.firsts.items entries place page.linked),
      λ steps knows times step finding.
          subst (λ (n : ℕ). HasFound steps c.args.access.now c.args.clocks.now entries place n found) (sym c.first-number.ensures)
          (found_none steps c.args.access.now c.args.clocks.now page.firsts.items entries place page.linked found finding),
      λ other apart. refl,
    )

pub loop-number-preserved : goal.loop-number-preserved
loop-number-preserved c =
    let page = c.args.self.now in
    let entries = page.entries.items in
    let place = c.args.place in
    let number = c.loop-number.number in
    let access = c.args.access.now in
    let entry : KeptAccess = c.index-entry.result.now in
    let some : number ≢ 0 = c.loop-number-test.true in
    let had = c.loop-number.invariant.0 some in
    let there : IsAt entries (number - 1) entry = (had.1.0, sym c.index-entry.ensures) in
    let of : entry.place ≡ place = ap (λ (one : KeptAccess). one.place) (same_at entries (number - 1) entry had.0 there had.1) ∙ had.2 in (
      next_of page.firsts.items entries place page.linked number entry some there of,
      λ steps knows times step finding.
          found_next steps access c.args.clocks.now page.firsts.items entries place page.linked number entry (found_at c.loop-number.races.words access.word) (found_at c.find_race.new.races.words access.word) some there of
          (λ done one. c.in_ok-find_race.ensures.own steps (latest_in entries place) done knows (in_latest entries (number - 1) entry place there of) times step one)
          (c.loop-number.invariant.1 steps knows times step finding),
      λ other apart. c.in_ok-find_race.ensures.others other apart ∙ c.loop-number.invariant.2 other apart,
    )

pub returns-clause-own : goal.returns-clause-own
returns-clause-own c = λ steps knows times step finding.
    let page = c.args.self.now in
    let access = c.args.access.now in
    found_all steps access c.args.clocks.now page.firsts.items page.entries.items c.args.place page.linked c.loop-number.number (found_at c.loop-number.races.words access.word) c.loop-number-test.false
    (c.loop-number.invariant.1 steps knows times step finding)

pub returns-then-is_past-clause-own : goal.returns-then-is_past-clause-own
returns-then-is_past-clause-own c = λ steps knows times step finding.
    let access = c.args.access.now in
    let entries = c.args.self.now.entries.items in
    finding_unhit steps access c.args.clocks.now (latest_in entries c.args.place) (found_at c.args.races.now.words access.word)
    (λ past among hit. let late = c.is_past.ensures c.if-is_past.true past among hit.threads in let early = hit.unordered in absurd (omega arith)) finding
