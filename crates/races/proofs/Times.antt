-- The times of a clock, raised and joined.
use Rattle.std.proofs.Common.{◌≡◌, ℕ, ◌+◌, ◌-◌, ◌≤◌, ◌<◌, List, ◌++◌, length, get_or, set, replicate, refl, sym, ◌∙◌, ap, subst, arith, ⊎_elim, inl, inr}
use Rattle.std.specs.Prelude.{◌⊎◌, ◌↔◌}
use Rattle.std.proofs.lemmas.Bool.{cases_lt, cases_eq}
use Rattle.std.proofs.lemmas.List.{get_or_append_left, get_or-append_right, get_or_past, get_or-replicate, get_or-set_same, get_or-set_other, length-replicate}
use Rattle.races.specs.Clocks.{IsJoined}

pub none_there : (m k : ℕ) → let none : ℕ = 0 in get_or (replicate m none) k none ≡ none
none_there m k = ⊎_elim
    (λ inside. get_or-replicate m k 0 0 inside)
    (λ past. let long = length-replicate {A = ℕ} m 0 in get_or_past (replicate m 0) k 0 (omega arith))
    (cases_lt k m)

-- times of 0 are as none
pub padded : (items : List ℕ) (m k : ℕ) → let none : ℕ = 0 in get_or (items ++ replicate m none) k none ≡ get_or items k none
padded items m k = ⊎_elim
    (λ inside. get_or_append_left items (replicate m 0) 0 k inside)
    (λ past. get_or-append_right items (replicate m 0) (length items) k 0 refl past ∙ none_there m (k - length items) ∙ sym (get_or_past items k 0 past))
    (cases_lt k (length items))

-- a time that is raised
pub raised : (items : List ℕ) (thread to : ℕ) → thread < length items → get_or items thread 0 < to
    → (other index : ℕ) → (index < get_or (set items thread to) other 0) ↔ ((index < get_or items other 0) ⊎ ((thread ≡ other) × (index < to)))
raised items thread to inside less other index = ⊎_elim here apart (cases_eq other thread)
  where
    here : other ≡ thread → (index < get_or (set items thread to) other 0) ↔ ((index < get_or items other 0) ⊎ ((thread ≡ other) × (index < to)))
    here same =
        let is : get_or (set items thread to) other 0 ≡ to = ap (λ (n : ℕ). get_or (set items thread to) n 0) same ∙ get_or-set_same items thread to 0 inside in
        let was : get_or items other 0 ≡ get_or items thread 0 = ap (λ (n : ℕ). get_or items n 0) same in (
          λ small. inr (sym same, omega arith),
          λ either. ⊎_elim (λ before. omega arith) (λ now. let n = now.1 in omega arith) either,
        )

    apart : (other ≡ thread → ⊥) → (index < get_or (set items thread to) other 0) ↔ ((index < get_or items other 0) ⊎ ((thread ≡ other) × (index < to)))
    apart different =
        let is = get_or-set_other items thread other to 0 different in (
          λ small. inl (omega arith),
          λ either. ⊎_elim (λ before. omega arith) (λ now. absurd (different (sym now.0))) either,
        )

-- a time that is late enough stays
pub raised_not : (time : ℕ → ℕ) (thread to : ℕ) → to ≤ time thread → (other index : ℕ) → (index < time other) ↔ ((index < time other) ⊎ ((thread ≡ other) × (index < to)))
raised_not time thread to late other index = (
  λ small. inl small,
  λ either. ⊎_elim (λ before. before) (λ now. let n = now.1 in subst (λ (one : ℕ). index < time one) now.0 (omega arith)) either,
)

-- joined with the times of the first threads
abbrev pub IsPartJoined : (old new : ℕ → ℕ) (items : List ℕ) (count : ℕ) → Type 0
IsPartJoined old new items count = (other index : ℕ) → (index < new other) ↔ ((index < old other) ⊎ ((other < count) × (index < get_or items other 0)))

pub part_none : (old : ℕ → ℕ) (items : List ℕ) → IsPartJoined old old items 0
part_none old items other index = (λ small. inl small, λ either. ⊎_elim (λ before. before) (λ now. let n = now.0 in absurd (omega arith)) either)

pub part_more : (old part new : ℕ → ℕ) (items : List ℕ) (count : ℕ) → IsPartJoined old part items count
    → ((other index : ℕ) → (index < new other) ↔ ((index < part other) ⊎ ((count ≡ other) × (index < get_or items count 0)))) → IsPartJoined old new items (count + 1)
part_more old part new items count was step other index = (
  λ small. ⊎_elim
      (λ before. ⊎_elim (λ first. inl first) (λ now. let n = now.0 in inr (omega arith, now.1)) ((was other index).0 before))
      (λ now. let e = now.0 in inr (omega arith, subst (λ (n : ℕ). index < get_or items n 0) now.0 now.1))
      ((step other index).0 small),
  λ either. ⊎_elim
      (λ first. (step other index).1 (inl ((was other index).1 (inl first))))
      (λ now. ⊎_elim
      (λ same. (step other index).1 (inr (sym same, subst (λ (n : ℕ). index < get_or items n 0) same now.1)))
      (λ different. let n = now.0 in (step other index).1 (inl ((was other index).1 (inr (omega arith, now.1)))))
      (cases_eq other count))
      either,
)

pub part_all : (old new : ℕ → ℕ) (items : List ℕ) (count : ℕ) → length items ≤ count → IsPartJoined old new items count → IsJoined old new (λ thread. get_or items thread 0)
part_all old new items count all part other index = (
  λ small. ⊎_elim (λ first. inl first) (λ now. inr now.1) ((part other index).0 small),
  λ either. (part other index).1 (⊎_elim
      (λ first. inl first)
      (λ now. ⊎_elim
      (λ inside. inr (omega arith, now))
      (λ past. let none = get_or_past items other 0 past in absurd (omega arith))
      (cases_lt other (length items)))
      either),
)
