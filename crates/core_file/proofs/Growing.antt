-- The runs of the pages below a number, with a page more.
use Rattle.std.proofs.Common.{◌≡◌, ◌⊎◌, inl, inr, ℕ, ◌+◌, ◌<◌, ◌≤◌, Bool, true, false, ◌||◌, None, IsSome, All, List, [], ◌∷◌, ◌++◌, length, refl, ap, sym, subst, ◌∙◌, append_assoc, arith, lt-ltb, le-leb, ltb-true, leb-true}
use Rattle.std.specs.List.{list_any}
use Rattle.std.proofs.lemmas.Bool.{and_from, and_parts, cases_lt, false≢true, or_cases, or_left, or_right}
use Rattle.std.proofs.lemmas.List.{get_or_append_left, length-append}
use Rattle.std.proofs.lemmas.List.Elements.{All-push}
use Rattle.std.proofs.lemmas.List.Folds.{list_any-append}
use Rattle.std.proofs.lemmas.List.Sums.{sum_by_push}
use Rattle.std.proofs.Math.Seq.{get_or-append_seam}
use Rattle.guest_memory.specs.declared.perm.Perm.{Perm}
use Rattle.paged_memory.specs.PageMap.{PageMap}
use Rattle.core_file.specs.Runs.{AreApart, AreRunsBelow, EndsBefore, GoesOnWith, IsAdded, IsLonger, IsMappedAs, IsRunBelow, has, longer}
use Rattle.core_file.specs.declared.run.Run.{Run}

all_before : {X : Type 0} (P : X → Type 0) (xs ys : List X) → All P (xs ++ ys) → All P xs
all_before P xs ys all k d inside = let there : k < length (xs ++ ys) = omega (arith, length-append xs ys) in subst P (get_or_append_left xs ys d k inside) (all k d there)

last_of : {X : Type 0} (P : X → Type 0) (xs : List X) (x : X) → All P (xs ++ x ∷ []) → P x
last_of P xs x all = let there : length xs < length (xs ++ x ∷ []) = omega (arith, length-append xs (x ∷ [])) in subst P (get_or-append_seam xs x [] x) (all (length xs) x there)

-- a list is empty or has a last element
pub last_or_none : {X : Type 0} (xs : List X) → (xs ≡ []) ⊎ ((before : List X) × (last : X) × (xs ≡ before ++ last ∷ []))
last_or_none [] = inl refl
last_or_none {X} (x ∷ xs) =
    elim (last_or_none xs) as (λ _. ((x ∷ xs) ≡ []) ⊎ ((before : List X) × (last : X) × ((x ∷ xs) ≡ before ++ last ∷ []))) [
      | inl none ↦ inr ([], x, ap (λ (rest : List X). x ∷ rest) none)
      | inr some ↦ inr (x ∷ some.0, some.1, ap (λ (rest : List X). x ∷ rest) some.2)
    ]

has_true : (number : ℕ) (run : Run) → run.first ≤ number → number < run.first + run.count → has number run ≡ true
has_true number run from below = and_from _ _ (le-leb run.first number from) (lt-ltb number (run.first + run.count) below)

has_longer : (number : ℕ) (run : Run) → has number run ≡ true → has number (longer run) ≡ true
has_longer number run is =
    let parts = and_parts _ _ is in
    let from : run.first ≤ number = leb-true _ _ parts.0 in
    let below : number < run.first + run.count = ltb-true _ _ parts.1 in
    has_true number (longer run) from (omega arith)

any_last : {X : Type 0} (test : X → Bool) (xs : List X) (x : X) → test x ≡ true → list_any test (xs ++ x ∷ []) ≡ true
any_last test xs x is = list_any-append test xs (x ∷ []) ∙ or_right (list_any test xs) (test x || false) (or_left (test x) false is)

any_before : {X : Type 0} (test : X → Bool) (xs ys : List X) → list_any test xs ≡ true → list_any test (xs ++ ys) ≡ true
any_before test xs ys is = list_any-append test xs ys ∙ or_left (list_any test xs) (list_any test ys) is

any_changed : {X : Type 0} (test : X → Bool) (xs : List X) (x y : X) → (test x ≡ true → test y ≡ true) → list_any test (xs ++ x ∷ []) ≡ true → list_any test (xs ++ y ∷ []) ≡ true
any_changed test xs x y follows is =
    elim (or_cases (list_any test xs) (test x || false) (sym (list_any-append test xs (x ∷ [])) ∙ is)) as (λ _. list_any test (xs ++ y ∷ []) ≡ true) [
      | inl early ↦ any_before test xs (y ∷ []) early
      | inr late ↦
          elim (or_cases (test x) false late) as (λ _. list_any test (xs ++ y ∷ []) ≡ true) [
            | inl there ↦ any_last test xs y (follows there)
            | inr none ↦ absurd cc
          ]
    ]

apart_longer : (runs : List Run) (run : Run) → AreApart (runs ++ run ∷ []) → AreApart (runs ++ longer run ∷ [])
apart_longer [] run apart = tt
apart_longer (one ∷ []) run apart = apart
apart_longer (one ∷ next ∷ runs) run apart = (apart.0, apart_longer (next ∷ runs) run apart.1)

apart_more : (runs : List Run) (run next : Run) → AreApart (runs ++ run ∷ []) → EndsBefore run next → AreApart (runs ++ run ∷ next ∷ [])
apart_more [] run next apart ends = (ends, tt)
apart_more (one ∷ []) run next apart ends = (apart.0, (ends, tt))
apart_more (one ∷ other ∷ runs) run next apart ends = (apart.0, apart_more (other ∷ runs) run next apart.1 ends)

append_two : {X : Type 0} (xs : List X) (x y : X) → (xs ++ x ∷ []) ++ y ∷ [] ≡ xs ++ x ∷ y ∷ []
append_two xs x y = append_assoc xs (x ∷ []) (y ∷ [])

module _ (pages : PageMap) (number : ℕ) where
  higher : (run : Run) → IsRunBelow pages number run → IsRunBelow pages (number + 1) run
  higher run is = let below = is.below in record { not_empty = is.not_empty; below = omega arith; mapped = is.mapped }

  all_higher : (runs : List Run) → All (IsRunBelow pages number) runs → All (IsRunBelow pages (number + 1)) runs
  all_higher runs all k d inside = higher _ (all k d inside)

  -- a page that isn't mapped
  pub skipped : (runs : List Run) (total : ℕ) → AreRunsBelow pages number runs total → pages number ≡ None → AreRunsBelow pages (number + 1) runs total
  skipped runs total are none = record {
    each = all_higher runs are.each;
    every = λ other below mapped. elim (cases_lt other number) as (λ _. list_any (has other) runs ≡ true) [
      | inl early ↦ are.every other early mapped
      | inr late ↦
          let same : other ≡ number = omega arith in
          absurd (false≢true (subst IsSome (ap pages same ∙ none) mapped))
    ];
    apart = are.apart;
    counted = are.counted;
    few = let few = are.few in omega arith;
  }

  module _ (next : Run) (first : next.first ≡ number) (count : next.count ≡ 1) (mapped : IsMappedAs next.perm (pages number)) where
    next_is : IsRunBelow pages (number + 1) next
    next_is = record {
      not_empty = omega arith;
      below = omega arith;
      mapped = λ other from below. let same : number ≡ other = omega arith in subst (λ (n : ℕ). IsMappedAs next.perm (pages n)) same mapped;
    }

    longer_is : (run : Run) → IsRunBelow pages number run → GoesOnWith run next → IsRunBelow pages (number + 1) (longer run)
    longer_is run is goes =
        let end : run.first + run.count ≡ number = goes.0 ∙ first in
        let perm : next.perm ≡ run.perm = sym goes.1 in
        record {
          not_empty = omega arith;
          below = omega arith;
          mapped = λ other from below. elim (cases_lt other number) as (λ _. IsMappedAs run.perm (pages other)) [
            | inl early ↦ is.mapped other from (omega arith)
            | inr late ↦
                let same : number ≡ other = omega arith in
                subst (λ (perm : Perm). IsMappedAs perm (pages other)) perm (subst (λ (n : ℕ). IsMappedAs next.perm (pages n)) same mapped)
          ];
        }

    module _ (old new : List Run) (total : ℕ) (are : AreRunsBelow pages number old total) where
      -- the last run is longer
      made_longer : IsLonger old next new → AreRunsBelow pages (number + 1) new (total + 1)
      made_longer grew =
          let was : AreRunsBelow pages number (grew.before ++ grew.last ∷ []) total = subst (λ (runs : List Run). AreRunsBelow pages number runs total) grew.was are in
          let last_is : IsRunBelow pages number grew.last = last_of (IsRunBelow pages number) grew.before grew.last was.each in
          let end : grew.last.first + grew.last.count ≡ number = grew.goes_on.0 ∙ first in
          subst (λ (runs : List Run). AreRunsBelow pages (number + 1) runs (total + 1)) (sym grew.is)
          (record {
            each =
                All-push (IsRunBelow pages (number + 1)) grew.before (longer grew.last)
                (all_higher grew.before (all_before (IsRunBelow pages number) grew.before (grew.last ∷ []) was.each)) (longer_is grew.last last_is grew.goes_on);
            every = λ other below there. elim (cases_lt other number) as (λ _. list_any (has other) (grew.before ++ longer grew.last ∷ []) ≡ true) [
              | inl early ↦ any_changed (has other) grew.before grew.last (longer grew.last) (has_longer other grew.last) (was.every other early there)
              | inr late ↦ any_last (has other) grew.before (longer grew.last) (has_true other (longer grew.last) (omega arith) (omega arith))
            ];
            apart = apart_longer grew.before grew.last was.apart;
            counted =
                let before = sum_by_push (λ (run : Run). run.count) grew.before grew.last in
                let after = sum_by_push (λ (run : Run). run.count) grew.before (longer grew.last) in
                let counted = was.counted in
                omega arith;
            few = let few = was.few in omega arith;
          })

      -- the last run ends before the next one
      ends_before : (before : List Run) (last : Run) → old ≡ before ++ last ∷ [] → ¬ GoesOnWith last next → EndsBefore last next
      ends_before before last was apart =
          let is : IsRunBelow pages number last = last_of (IsRunBelow pages number) before last (subst (All (IsRunBelow pages number)) was are.each) in
          elim (cases_lt (last.first + last.count) number) as (λ _. EndsBefore last next) [
            | inl gap ↦ inl (omega arith)
            | inr touch ↦
                let below = is.below in
                let meets : last.first + last.count ≡ next.first = omega arith in
                inr (meets, λ same. apart (meets, same))
          ]

      apart_after : IsAdded old next new → AreApart (old ++ next ∷ [])
      apart_after grew =
          elim (last_or_none old) as (λ _. AreApart (old ++ next ∷ [])) [
            | inl none ↦ subst (λ (runs : List Run). AreApart (runs ++ next ∷ [])) (sym none) tt
            | inr some ↦
                subst (λ (runs : List Run). AreApart (runs ++ next ∷ [])) (sym some.2)
                (subst AreApart (sym (append_two some.0 some.1 next))
                (apart_more some.0 some.1 next (subst AreApart some.2 are.apart) (ends_before some.0 some.1 some.2 (grew.apart some.0 some.1 some.2))))
          ]

      -- there is a run more
      added : IsAdded old next new → AreRunsBelow pages (number + 1) new (total + 1)
      added grew =
          subst (λ (runs : List Run). AreRunsBelow pages (number + 1) runs (total + 1)) (sym grew.is)
          (record {
            each = All-push (IsRunBelow pages (number + 1)) old next (all_higher old are.each) next_is;
            every = λ other below there. elim (cases_lt other number) as (λ _. list_any (has other) (old ++ next ∷ []) ≡ true) [
              | inl early ↦ any_before (has other) old (next ∷ []) (are.every other early there)
              | inr late ↦ any_last (has other) old next (has_true other next (omega arith) (omega arith))
            ];
            apart = apart_after grew;
            counted =
                let after = sum_by_push (λ (run : Run). run.count) old next in
                let counted = are.counted in
                omega arith;
            few = let few = are.few in omega arith;
          })

      pub grown : IsLonger old next new ⊎ IsAdded old next new → AreRunsBelow pages (number + 1) new (total + 1)
      grown (inl grew) = made_longer grew
      grown (inr grew) = added grew
