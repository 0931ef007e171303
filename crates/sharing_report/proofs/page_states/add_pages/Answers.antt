use Rattle.std.proofs.Common.{◌≡◌, ◌<◌, ◌+◌, ◌*◌, ◌/◌, ◌++◌, ◌∙◌, ℕ, List, [], length, ap, refl, sym, subst, arith, append_assoc}
use Rattle.std.specs.Prelude.{IsSome}
use Rattle.std.specs.Ordering.{nat_cmp}
use Rattle.std.specs.BTreeMap.{get}
use Rattle.std.proofs.lemmas.List.Elements.{All-append}
use Rattle.sharing_report.specs.Pages.{AreOfPage}
use Rattle.sharing_report.proofs.page_states.add_pages.Goals as goal

pub pages-init : goal.pages-init
pages-init c = (([], refl, λ k d inside. absurd (omega arith)), λ bytes known. known)

pub pages-preserved : goal.pages-preserved
pages-preserved c =
    let before = c.pages.invariant.0 in
    let run : List ℕ = c.split_at.result.0.now in
    let later : List ℕ = c.split_at.result.1.now in
    let of : AreOfPage c.page_of-page.result run = subst (AreOfPage c.page_of-page.result) (sym c.split_at.ensures.front) c.same_page.ensures.same in (
      (
        before.0 ++ run,
        append_assoc before.0 run later ∙ ap (λ (rest : List ℕ). before.0 ++ rest) (sym c.split_at.ensures.by_index.0) ∙ before.1,
        All-append (λ address. IsSome (get nat_cmp c.add_page.new.pages (address / 4096 * 4096))) before.0 run
            (λ k d inside. c.add_page.ensures.kept _ (before.2 k d inside))
            (λ k d inside. subst (λ (page : ℕ). IsSome (get nat_cmp c.add_page.new.pages page)) (sym (of k d inside)) c.in_ok-add_page.ensures.has),
      ),
      λ bytes known. c.add_page.ensures.known bytes (c.pages.invariant.1 bytes known),
    )
