use Rattle.std.proofs.Common.{◌≡◌, ◌<◌, ◌∙◌, Some, Option, List, [], ap, sym, subst, arith, length}
use Rattle.std.specs.Box.{with_value}
use Rattle.std.specs.Global.{Box}
use Rattle.std.proofs.lemmas.Result.{on_ok_weaker}
use Rattle.races.specs.Linked.{latest_in}
use Rattle.races.specs.Words.{IsKept, latest_on}
use Rattle.races.specs.declared.latest.Latest.{Latest}
use Rattle.races.specs.declared.page_history.PageHistory.{PageHistory}
use Rattle.races.proofs.Paged.{latest_found, page_kept, page_kept_own}
use Rattle.races.proofs.pages.Pages.keep.Goals as goal

pub returns-in-Some : goal.returns-in-Some
returns-in-Some c =
    let pages = c.reach.new.self.pages in
    let long = pages.ok.0 in
    let there = c.in_ok-reach.ensures.inside in
    let inside : c.page_of-number.result < length pages.items = omega arith in
    let was = c.index_mut-slot.result.now in
    let found = latest_found was c.in-Some.page c.deref_mut.result.now c.in-Some.is c.deref_mut.ensures.value in
    on_ok_weaker c.keep.result
    (λ kept. record {
      own =
          page_kept_own pages.items c.args.word c.page_of-number.result c.place_of-place.result was (Some (with_value c.in-Some.page c.keep.new.self)) c.args.own _ c.page_of-number.ensures c.place_of-place.ensures inside
          c.index_mut-slot.ensures.value (c.in_ok-reach.ensures.same c.args.word)
          (subst (λ (before : List Latest). IsKept c.args.own before (latest_in c.keep.new.self.entries.items c.place_of-place.result)) (sym (found c.place_of-place.result)) kept.own);
      others = λ other apart.
          page_kept pages.items c.args.word c.page_of-number.result c.place_of-place.result was (Some (with_value c.in-Some.page c.keep.new.self)) c.page_of-number.ensures c.place_of-place.ensures inside
          c.index_mut-slot.ensures.value (λ place away. kept.others place away ∙ sym (found place)) other apart
          ∙ c.in_ok-reach.ensures.same other;
    })
    c.keep.ensures

pub returns-in_ok-first_page-in-None : goal.returns-in_ok-first_page-in-None
returns-in_ok-first_page-in-None c =
    let pages = c.reach.new.self.pages in
    let long = pages.ok.0 in
    let there = c.in_ok-reach.ensures.inside in
    let inside : c.page_of-number.result < length pages.items = omega arith in
    let was = c.index_mut-slot.result.now in
    let none : latest_on (Some was) c.place_of-place.result ≡ [] = ap (λ (slot : Option (Box PageHistory)). latest_on (Some slot) c.place_of-place.result) c.in-None.is in
    record {
      own =
          page_kept_own pages.items c.args.word c.page_of-number.result c.place_of-place.result was (Some c.in_ok-first_page-in-None.field-0) c.args.own _ c.page_of-number.ensures c.place_of-place.ensures inside
          c.index_mut-slot.ensures.value (c.in_ok-reach.ensures.same c.args.word)
          (subst (λ (before : List Latest). IsKept c.args.own before (latest_in c.in_ok-first_page-in-None.field-0.value.entries.items c.place_of-place.result)) (sym none)
          c.in_ok-first_page-in-None.ensures.own);
      others = λ other apart.
          page_kept pages.items c.args.word c.page_of-number.result c.place_of-place.result was (Some c.in_ok-first_page-in-None.field-0) c.page_of-number.ensures c.place_of-place.ensures inside
          c.index_mut-slot.ensures.value
          (λ place away. c.in_ok-first_page-in-None.ensures.others place away ∙ sym (ap (λ (slot : Option (Box PageHistory)). latest_on (Some slot) place) c.in-None.is)) other apart
          ∙ c.in_ok-reach.ensures.same other;
    }
