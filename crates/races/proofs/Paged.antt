-- What is kept of the words of pages, as one of them changes.
use Rattle.std.proofs.Common.{◌≡◌, ℕ, zero, suc, ◌+◌, ◌*◌, ◌/◌, ◌%◌, ◌≤◌, ◌<◌, Some, List, [], ◌∷◌, ◌++◌, length, get_or, set, refl, sym, ◌∙◌, ap, subst, arith, ⊎_elim, inl, inr}
use Rattle.std.specs.Prelude.{◌⊎◌, Option, slice_get}
use Rattle.std.specs.Global.{Box}
use Rattle.std.proofs.lemmas.Bool.{cases_lt, cases_eq}
use Rattle.std.proofs.lemmas.Option.{slice_get_read, slice_get_past}
use Rattle.races.specs.Races.{Renews}
use Rattle.races.specs.Linked.{latest_in}
use Rattle.races.specs.Steps.Step.{Renew}
use Rattle.races.specs.Words.{IsKept, IsRenewed, PageList, latest_at, latest_on}
use Rattle.races.specs.declared.kept_access.KeptAccess.{KeptAccess}
use Rattle.races.specs.declared.latest.Latest.{Latest}
use Rattle.races.specs.declared.page_history.PageHistory.{PageHistory}
use Rattle.races.proofs.Clocked.{get_set, get_set_apart}
use Rattle.races.proofs.Kept.{renewed_none, renewed_outside, renewed_same}

-- Words of a page below a place are renewed, and the others are as they were.
abbrev pub ArePartRenewed : (address long base : ℕ) (old new : List KeptAccess) (from count : ℕ) → Type 0
ArePartRenewed address long base old new from count =
    ((place : ℕ) → from ≤ place → place < count → IsRenewed address long (base + place) (latest_in old place) (latest_in new place))
    × ((place : ℕ) → (place < from) ⊎ (count ≤ place) → latest_in new place ≡ latest_in old place)

pub renewed_more : (address long base : ℕ) (old part new : List KeptAccess) (from count : ℕ) → from ≤ count → ((place : ℕ) → (count ≡ place → ⊥) → latest_in new place ≡ latest_in part place)
    → IsRenewed address long (base + count) (latest_in part count) (latest_in new count) → ArePartRenewed address long base old part from count → ArePartRenewed address long base old new from (count + 1)
renewed_more address long base old part new from count late others own done = (
  λ place after before. ⊎_elim
      (λ same. subst (λ (n : ℕ). IsRenewed address long (base + n) (latest_in old n) (latest_in new n)) same
      (renewed_same address long (base + count) (latest_in part count) (latest_in new count) (latest_in old count) (latest_in new count) (done.1 count (inr (omega arith))) refl own))
      (λ apart. renewed_same address long (base + place) (latest_in old place) (latest_in part place) (latest_in old place) (latest_in new place) refl (sym (others place apart)) (done.0 place after (omega arith)))
      (cases_eq count place),
  λ place where_it. others place (λ same. ⊎_elim (λ less. absurd (omega arith)) (λ past. absurd (omega arith)) where_it) ∙ done.1 place (⊎_elim (λ less. inl less) (λ past. inr (omega arith)) where_it),
)

pub renewed_all : (address long base : ℕ) (old new : List KeptAccess) (from end count : ℕ) → end ≤ count → ((place : ℕ) → place < 4096 → (place < from) ⊎ (end ≤ place) → (byte : ℕ) → byte < 4 → Renews (Renew address long) (base + place) byte → ⊥)
    → ArePartRenewed address long base old new from count → (place : ℕ) → place < 4096 → IsRenewed address long (base + place) (latest_in old place) (latest_in new place)
renewed_all address long base old new from end count all outside done place small = ⊎_elim
    (λ before. stays (inl before))
    (λ after. ⊎_elim (λ inside. done.0 place after inside) (λ past. stays (inr past)) (cases_lt place count))
    (cases_lt place from)
  where
    stays : (place < from) ⊎ (count ≤ place) → IsRenewed address long (base + place) (latest_in old place) (latest_in new place)
    stays where_it =
        renewed_same address long (base + place) (latest_in old place) (latest_in old place) (latest_in old place) (latest_in new place) refl (sym (done.1 place where_it))
        (renewed_outside address long (base + place) (latest_in old place) (outside place small (⊎_elim (λ less. inl less) (λ past. inr (omega arith)) where_it)))

-- ---- the pages

pub more_pages : (pages : PageList) (page : Option (Box PageHistory)) → ((place : ℕ) → latest_on (Some page) place ≡ []) → (number place : ℕ) → latest_on (slice_get (pages ++ page ∷ []) number) place ≡ latest_on (slice_get pages number) place
more_pages [] page none zero place = none place
more_pages [] page none (suc number) place = refl
more_pages (first ∷ pages) page none zero place = refl
more_pages (first ∷ pages) page none (suc number) place = more_pages pages page none number place

-- what is kept of a word of a page that is there
pub latest_found : (slot : Option (Box PageHistory)) (page : Box PageHistory) (found : PageHistory) → slot ≡ Some page → found ≡ page.value → (place : ℕ) → latest_on (Some slot) place ≡ latest_in found.entries.items place
latest_found slot page found is value place =
    ap (λ (slot : Option (Box PageHistory)). latest_on (Some slot) place) is ∙ ap (λ (page : PageHistory). latest_in page.entries.items place) (sym value)

module _ (pages : PageList) (number : ℕ) (was now : Option (Box PageHistory)) (inside : number < length pages) (is : was ≡ get_or pages number was) where
  pub page_was : (place : ℕ) → latest_on (slice_get pages number) place ≡ latest_on (Some was) place
  page_was place = ap (λ (page : Option (Option (Box PageHistory))). latest_on page place) (slice_get_read pages (length pages) number was refl inside is)

  pub page_is : (place : ℕ) → latest_on (slice_get (set pages number now) number) place ≡ latest_on (Some now) place
  page_is place = ap (λ (page : Option (Option (Box PageHistory))). latest_on page place) (get_set pages number now inside)

  pub page_other : (other place : ℕ) → (number ≡ other → ⊥) → latest_on (slice_get (set pages number now) other) place ≡ latest_on (slice_get pages other) place
  page_other other place apart = ap (λ (page : Option (Option (Box PageHistory))). latest_on page place) (get_set_apart pages number other now apart)

-- an access is kept of a word
pub page_kept_own : (pages : PageList) (word number place : ℕ) (was now : Option (Box PageHistory)) (own : Latest) (old : List Latest) → number ≡ word / 4096 → place ≡ word % 4096 → number < length pages → was ≡ get_or pages number was
    → latest_at pages word ≡ old → IsKept own (latest_on (Some was) place) (latest_on (Some now) place) → IsKept own old (latest_at (set pages number now) word)
page_kept_own pages word number place was now own old number_is place_is inside is old_is put =
    let here : latest_on (slice_get pages number) place ≡ latest_at pages word = ap (λ (n : ℕ). latest_on (slice_get pages n) place) number_is ∙ ap (λ (n : ℕ). latest_on (slice_get pages (word / 4096)) n) place_is in
    let there : latest_on (slice_get (set pages number now) number) place ≡ latest_at (set pages number now) word =
    ap (λ (n : ℕ). latest_on (slice_get (set pages number now) n) place) number_is ∙ ap (λ (n : ℕ). latest_on (slice_get (set pages number now) (word / 4096)) n) place_is in
    subst (λ (before : List Latest). IsKept own before (latest_at (set pages number now) word)) (sym (page_was pages number was now inside is place) ∙ here ∙ old_is)
    (subst (λ (after : List Latest). IsKept own (latest_on (Some was) place) after) (sym (page_is pages number was now inside is place) ∙ there) put)

pub page_kept : (pages : PageList) (word number place : ℕ) (was now : Option (Box PageHistory)) → number ≡ word / 4096 → place ≡ word % 4096 → number < length pages → was ≡ get_or pages number was
    → ((other : ℕ) → (place ≡ other → ⊥) → latest_on (Some now) other ≡ latest_on (Some was) other) → (other : ℕ) → (word ≡ other → ⊥) → latest_at (set pages number now) other ≡ latest_at pages other
page_kept pages word number place was now number_is place_is inside is same other apart = ⊎_elim
    (λ here.
    subst (λ (n : ℕ). latest_on (slice_get (set pages number now) n) (other % 4096) ≡ latest_on (slice_get pages n) (other % 4096)) here
    (page_is pages number was now inside is (other % 4096) ∙ same (other % 4096) (λ at_place. apart (omega arith)) ∙ sym (page_was pages number was now inside is (other % 4096))))
    (λ there. page_other pages number was now inside is (other / 4096) (other % 4096) there)
    (cases_eq number (other / 4096))

-- Words of the pages below one are renewed, and the others are as they were.
abbrev pub ArePagesRenewed : (address long : ℕ) (old new : PageList) (from count : ℕ) → Type 0
ArePagesRenewed address long old new from count =
    ((word : ℕ) → from ≤ word / 4096 → word / 4096 < count → IsRenewed address long word (latest_at old word) (latest_at new word))
    × ((word : ℕ) → (word / 4096 < from) ⊎ (count ≤ word / 4096) → latest_at new word ≡ latest_at old word)

pub pages_more : (address long : ℕ) (old part : PageList) (from count base : ℕ) (was now : Option (Box PageHistory)) → from ≤ count → count < length part → was ≡ get_or part count was → base ≡ count * 4096
    → ((place : ℕ) → place < 4096 → IsRenewed address long (base + place) (latest_on (Some was) place) (latest_on (Some now) place)) → ArePagesRenewed address long old part from count
    → ArePagesRenewed address long old (set part count now) from (count + 1)
pages_more address long old part from count base was now late inside is base_is own done = (
  λ word after before. ⊎_elim
      (λ same. here word same)
      (λ apart. renewed_same address long word (latest_at old word) (latest_at part word) (latest_at old word) (latest_at (set part count now) word) refl
      (sym (page_other part count was now inside is (word / 4096) (word % 4096) apart)) (done.0 word after (omega arith)))
      (cases_eq count (word / 4096)),
  λ word where_it. page_other part count was now inside is (word / 4096) (word % 4096) (λ same. ⊎_elim (λ less. absurd (omega arith)) (λ past. absurd (omega arith)) where_it)
      ∙ done.1 word (⊎_elim (λ less. inl less) (λ past. inr (omega arith)) where_it),
)
  where
    here : (word : ℕ) → count ≡ word / 4096 → IsRenewed address long word (latest_at old word) (latest_at (set part count now) word)
    here word same =
        let number : base + word % 4096 ≡ word = omega arith in
        let small : word % 4096 < 4096 = omega arith in
        let renewed = subst (λ (n : ℕ). IsRenewed address long n (latest_on (Some was) (word % 4096)) (latest_on (Some now) (word % 4096))) number (own (word % 4096) small) in
        let old_is : latest_at part word ≡ latest_on (Some was) (word % 4096) =
        subst (λ (n : ℕ). latest_on (slice_get part n) (word % 4096) ≡ latest_on (Some was) (word % 4096)) same (page_was part count was now inside is (word % 4096)) in
        let new_is : latest_at (set part count now) word ≡ latest_on (Some now) (word % 4096) =
        subst (λ (n : ℕ). latest_on (slice_get (set part count now) n) (word % 4096) ≡ latest_on (Some now) (word % 4096)) same (page_is part count was now inside is (word % 4096)) in
        renewed_same address long word (latest_on (Some was) (word % 4096)) (latest_on (Some now) (word % 4096)) (latest_at old word) (latest_at (set part count now) word)
        (sym old_is ∙ done.1 word (inr (omega arith))) (sym new_is) renewed

pub pages_all : (address long : ℕ) (old new : PageList) (from end count : ℕ) → end ≤ count → from ≡ address / 4 / 4096
    → ((word : ℕ) → word / 4096 < length old → end ≤ word / 4096 → (byte : ℕ) → byte < 4 → Renews (Renew address long) word byte → ⊥) → ArePagesRenewed address long old new from count
    → (word : ℕ) → IsRenewed address long word (latest_at old word) (latest_at new word)
pages_all address long old new from end count all from_is outside done word = ⊎_elim
    (λ before. stays (inl before))
    (λ after. ⊎_elim (λ inside. done.0 word after inside) (λ past. stays (inr past)) (cases_lt (word / 4096) count))
    (cases_lt (word / 4096) from)
  where
    stays : (word / 4096 < from) ⊎ (count ≤ word / 4096) → IsRenewed address long word (latest_at old word) (latest_at new word)
    stays where_it =
        let same = done.1 word where_it in
        ⊎_elim
        (λ there. renewed_same address long word (latest_at old word) (latest_at old word) (latest_at old word) (latest_at new word) refl (sym same)
        (renewed_outside address long word (latest_at old word)
        (⊎_elim (λ less byte small renews. let r = renews.0 in absurd (omega arith)) (λ past. outside word there (omega arith)) where_it)))
        (λ past.
        let none = ap (λ (page : Option (Option (Box PageHistory))). latest_on page (word % 4096)) (slice_get_past old (word / 4096) past) in
        renewed_same address long word [] [] (latest_at old word) (latest_at new word) (sym none) (sym (same ∙ none)) (renewed_none address long word))
        (cases_lt (word / 4096) (length old))
