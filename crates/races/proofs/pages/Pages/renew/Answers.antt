use Rattle.std.proofs.Common.{◌≡◌, ℕ, ◌+◌, ◌<◌, ◌*◌, Some, Option, List, [], ap, sym, subst, arith, length, refl}
use Rattle.std.specs.Box.{with_value}
use Rattle.std.specs.Global.{Box}
use Rattle.races.specs.Words.{IsRenewed, latest_on}
use Rattle.races.specs.declared.latest.Latest.{Latest}
use Rattle.races.specs.declared.page_history.PageHistory.{PageHistory}
use Rattle.races.proofs.Paged.{latest_found, pages_all, pages_more}
use Rattle.races.proofs.Kept.{renewed_none, renewed_same}
use Rattle.races.proofs.pages.Pages.renew.Goals as goal
use Rattle.races.proofs.pages.Pages.renew.Goals.{in-Some, in_default}

pub loop-number-preserved : goal.loop-number-preserved
loop-number-preserved c =
    let fresh = c.args.fresh in
    let part = c.loop-number.self.pages in
    let number = c.loop-number.number in
    let was = c.index_mut.result.now in
    let long = part.ok.0 in
    let inside : number < length part.items = omega arith in
    let first = c.page_of-from.result in
    elim c.match-index_mut.branch [
      | in-Some w ↦
          (let now : Option (Box PageHistory) = Some (with_value w.in-Some.page w.renew.new.self) in
          let own : (place : ℕ) → place < 4096 → IsRenewed fresh.address fresh.length (number * 4096 + place) (latest_on (Some was) place) (latest_on (Some now) place) =
          (λ place small. subst (λ (old : List Latest). IsRenewed fresh.address fresh.length (number * 4096 + place) old (latest_on (Some now) place))
          (sym (latest_found was w.in-Some.page w.deref_mut.result.now w.in-Some.is w.deref_mut.ensures.value place)) (w.renew.ensures place small)) in
          rw w.self-is (
            pages_more fresh.address fresh.length c.args.self.now.pages.items part.items first number (number * 4096) was now c.loop-number.auto.number inside c.index_mut.ensures.value refl own
                c.loop-number.invariant.0,
            c.loop-number.invariant.1,
          ))
      | in_default w ↦
          (let none : (place : ℕ) → latest_on (Some was) place ≡ [] = (λ place. ap (λ (slot : Option (Box PageHistory)). latest_on (Some slot) place) w.in_default.is) in
          let own : (place : ℕ) → place < 4096 → IsRenewed fresh.address fresh.length (number * 4096 + place) (latest_on (Some was) place) (latest_on (Some was) place) =
          (λ place small. renewed_same fresh.address fresh.length (number * 4096 + place) [] [] (latest_on (Some was) place) (latest_on (Some was) place) (sym (none place)) (sym (none place))
          (renewed_none fresh.address fresh.length (number * 4096 + place))) in
          rw w.self-is (
            pages_more fresh.address fresh.length c.args.self.now.pages.items part.items first number (number * 4096) was was c.loop-number.auto.number inside c.index_mut.ensures.value refl own
                c.loop-number.invariant.0,
            c.loop-number.invariant.1,
          ))
    ]

pub returns : goal.returns
returns c =
    let fresh = c.args.fresh in
    let old = c.args.self.now.pages in
    let long = old.ok.0 in
    let first = c.first_word.ensures in
    let from = c.page_of-from.ensures in
    pages_all fresh.address fresh.length old.items c.loop-number.self.pages.items c.page_of-from.result c.min-end.result c.loop-number.number c.loop-number-test.false (omega arith)
    (λ word there late byte few renews. let r = renews.0 in let s = renews.1 in absurd (omega arith)) c.loop-number.invariant.0
