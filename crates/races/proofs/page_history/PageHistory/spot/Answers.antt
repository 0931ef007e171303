use Rattle.std.proofs.Common.{◌≡◌, ◌-◌, ◌∙◌, ℕ, ap, refl, subst, sym}
use Rattle.std.specs.Prelude.{◌≢◌}
use Rattle.races.specs.Linked.{IsAt}
use Rattle.races.specs.declared.kept_access.KeptAccess.{KeptAccess}
use Rattle.races.proofs.Linked.{IsOf, first_of, next_of, same_at}
use Rattle.races.proofs.page_history.PageHistory.spot.Goals as goal

pub loop-number-init : goal.loop-number-init
loop-number-init c =
    let page = c.args.self.now in
    (subst (λ (n : ℕ). IsOf page.entries.items c.args.place n) (sym c.first-number.ensures) (first_of page.firsts.items page.entries.items c.args.place page.linked), sym c.first-number.ensures)

pub loop-number-preserved : goal.loop-number-preserved
loop-number-preserved c =
    let page = c.args.self.now in
    let entries = page.entries.items in
    let place = c.args.place in
    let number = c.loop-number.number in
    let entry : KeptAccess = c.index-entry.result.now in
    let some : number ≢ 0 = c.loop-number-test.true in
    let had = c.loop-number.invariant.0 some in
    let there : IsAt entries (number - 1) entry = (had.1.0, sym c.index-entry.ensures) in
    let of : entry.place ≡ place = ap (λ (one : KeptAccess). one.place) (same_at entries (number - 1) entry had.0 there had.1) ∙ had.2 in
    (next_of page.firsts.items entries place page.linked number entry some there of, c.past-spot.ensures page.firsts.items entries place number c.args.own.now entry c.loop-number.invariant.1 there of refl)
