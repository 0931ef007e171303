use Rattle.std.proofs.Common.{◌≡◌, ◌-◌, ◌∙◌, ℕ, ap, arith, refl, subst, sym}
use Rattle.std.specs.Prelude.{◌≢◌}
use Rattle.races.specs.Linked.{IsAt}
use Rattle.races.specs.declared.kept_access.KeptAccess.{KeptAccess}
use Rattle.races.proofs.Blocked.{known_set}
use Rattle.races.proofs.Linked.{IsErasing, IsOf, erased_all, erasing_here, erasing_next, erasing_none, first_of, latest_set, linked_set, next_nearer, next_of, same_at}
use Rattle.races.proofs.page_history.PageHistory.erase.Goals as goal

pub loop-number-init : goal.loop-number-init
loop-number-init c =
    let page = c.args.self.now in
    let old = page.entries.items in
    let place = c.args.place in (
      subst (λ (n : ℕ). IsOf old place n) (sym c.first-number.ensures) (first_of page.firsts.items old place page.linked),
      subst (λ (n : ℕ). IsErasing c.args.bytes old old place n) (sym c.first-number.ensures) (erasing_none c.args.bytes page.firsts.items old place page.linked),
      λ other apart. refl,
    )

pub invariant_of-self : goal.invariant_of-self
invariant_of-self c =
    let page = c.loop-number.self in
    let part = page.entries.items in
    let number = c.loop-number.number in
    let entry : KeptAccess = c.index-entry.result.now in
    let had = c.loop-number.invariant.0 c.loop-number-test.true in
    let inside = had.1.0 in
    let long = c.loop-number.invariant.1.long in
    let there : IsAt part (number - 1) entry = (omega arith, sym c.index-entry.ensures) in
    record {
      sized = page.sized;
      linked = linked_set page.firsts.items part (number - 1) entry c.without.result there c.without.ensures.place_is c.without.ensures.next_is page.linked;
      known = known_set page.blocks.items part (number - 1) entry c.without.result there c.without.ensures.place_is c.without.ensures.site c.without.ensures.step page.known;
    }

pub loop-number-smaller : goal.loop-number-smaller
loop-number-smaller c =
    let page = c.args.self.now in
    let old = page.entries.items in
    let place = c.args.place in
    let part = c.loop-number.self.entries.items in
    let number = c.loop-number.number in
    let entry : KeptAccess = c.index-entry.result.now in
    let some : number ≢ 0 = c.loop-number-test.true in
    let had = c.loop-number.invariant.0 some in
    let inside = had.1.0 in
    let long = c.loop-number.invariant.1.long in
    let there : IsAt part (number - 1) entry = (omega arith, sym c.index-entry.ensures) in
    let was : IsAt old (number - 1) entry = erasing_here c.args.bytes page.firsts.items old place page.linked part number some c.loop-number.invariant.0 c.loop-number.invariant.1 entry there in
    let of : entry.place ≡ place = ap (λ (one : KeptAccess). one.place) (same_at old (number - 1) entry had.0 was had.1) ∙ had.2 in
    next_nearer page.firsts.items old place page.linked number entry some was of

pub loop-number-preserved : goal.loop-number-preserved
loop-number-preserved c =
    let page = c.args.self.now in
    let old = page.entries.items in
    let place = c.args.place in
    let part = c.loop-number.self.entries.items in
    let number = c.loop-number.number in
    let entry : KeptAccess = c.index-entry.result.now in
    let some : number ≢ 0 = c.loop-number-test.true in
    let had = c.loop-number.invariant.0 some in
    let inside = had.1.0 in
    let long = c.loop-number.invariant.1.long in
    let there : IsAt part (number - 1) entry = (omega arith, sym c.index-entry.ensures) in
    let was : IsAt old (number - 1) entry = erasing_here c.args.bytes page.firsts.items old place page.linked part number some c.loop-number.invariant.0 c.loop-number.invariant.1 entry there in
    let of : entry.place ≡ place = ap (λ (one : KeptAccess). one.place) (same_at old (number - 1) entry had.0 was had.1) ∙ had.2 in (
      next_of page.firsts.items old place page.linked number entry some was of,
      erasing_next c.args.bytes page.firsts.items old place page.linked part number entry c.without.result some was of c.without.ensures c.loop-number.invariant.1,
      λ other apart. latest_set part (number - 1) entry c.without.result other there c.without.ensures.place_is (λ same. absurd (apart (sym of ∙ same))) ∙ c.loop-number.invariant.2 other apart,
    )

pub returns-clause-own : goal.returns-clause-own
returns-clause-own c =
    let page = c.args.self.now in
    erased_all c.args.bytes page.firsts.items page.entries.items c.args.place page.linked c.loop-number.self.entries.items c.loop-number.number c.loop-number-test.false c.loop-number.invariant.1
