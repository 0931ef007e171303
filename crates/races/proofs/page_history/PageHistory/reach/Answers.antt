use Rattle.std.proofs.Common.{◌≡◌, ◌∙◌, ℕ, List, ap, arith, get_or, length, refl, subst, sym, ⊎_elim}
use Rattle.std.proofs.lemmas.Bool.{cases_eq, ne_eqb}
use Rattle.races.specs.Linked.{IsFirst}
use Rattle.races.proofs.Linked.{get_none}
use Rattle.races.proofs.Times.{none_there}
use Rattle.races.proofs.page_history.PageHistory.reach.Goals as goal

pub invariant_of-self : goal.invariant_of-self
invariant_of-self c =
    let page = c.args.self.now in
    let long = page.firsts.ok.0 in
    let tested = c.is_empty.ensures in
    let is_so = c.if-is_empty.true in
    let empty : length page.firsts.items ≡ 0 = ⊎_elim (λ none. omega arith) (λ some. absurd (cc (ne_eqb page.firsts.len 0 some))) (cases_eq page.firsts.len 0) in
    let made = c.in_ok-firsts.ensures.items_if_clones_equal (λ y same. same) in
    record {
      sized = λ some. c.in_ok-firsts.ensures.len;
      linked = record {
        begin = λ place.
            subst (λ (n : ℕ). IsFirst page.entries.items 0 place n)
            (get_none page.firsts.items place empty ∙ sym (ap (λ (all : List ℕ). get_or all place 0) made ∙ none_there 4096 place))
            (page.linked.begin place);
        go_on = page.linked.go_on;
      };
      known = λ index entry block is_at of. absurd (((page.linked.begin entry.place).first index entry (omega arith) is_at refl).0 (get_none page.firsts.items entry.place empty));
    }
