-- The first of each kind, one more after another.
use Rattle.std.proofs.Common.{◌≡◌, Bool, true, false, cond, ◌||◌, List, [], ◌∷◌, ◌++◌, map, refl, sym, ◌∙◌, ap, ⊎_elim, append_assoc, arith}
use Rattle.std.specs.Prelude.{if◌then◌else◌, Contains, filter, fold}
use Rattle.std.specs.List.{list_any}
use Rattle.std.proofs.lemmas.Bool.{cases_Bool, or_cases, or_left, or_right}
use Rattle.std.proofs.lemmas.List.{append-nil, map-append}
use Rattle.std.proofs.lemmas.List.Elements.{filter-append}
use Rattle.std.proofs.lemmas.List.Folds.{list_any-append}
use Rattle.std.proofs.lemmas.Grind.{fold-append}
use Rattle.races.specs.Firsts.{with_new}

-- one of a kind that is there
pub new_old : {A : Type 0} (same : A → A → Bool) (kept : List A) (one : A) → list_any (same one) kept ≡ true → with_new same kept one ≡ kept
new_old same kept one is = ap (λ (b : Bool). if b then kept else kept ++ one ∷ []) is

-- one of a kind that isn't
pub new_more : {A : Type 0} (same : A → A → Bool) (kept : List A) (one : A) → list_any (same one) kept ≡ false → with_new same kept one ≡ kept ++ one ∷ []
new_more same kept one is = ap (λ (b : Bool). if b then kept else kept ++ one ∷ []) is

-- a test that some pass is passed by some with more of them
pub any_more : {A : Type 0} (q : A → Bool) (kept more : List A) → list_any q kept ≡ true → list_any q (kept ++ more) ≡ true
any_more q kept more is = list_any-append q kept more ∙ or_left (list_any q kept) (list_any q more) is

any_last : {A : Type 0} (q : A → Bool) (kept : List A) (one : A) → q one ≡ true → list_any q (kept ++ one ∷ []) ≡ true
any_last q kept one is = list_any-append q kept (one ∷ []) ∙ or_right (list_any q kept) (q one || false) (or_left (q one) false is)

any_weaker : {A : Type 0} (p q : A → Bool) → ((x : A) → p x ≡ true → q x ≡ true) → (xs : List A) → list_any p xs ≡ true → list_any q xs ≡ true
any_weaker p q all [] is = is
any_weaker p q all (x ∷ xs) is = ⊎_elim
    (λ first. or_left (q x) (list_any q xs) (all x first))
    (λ rest. or_right (q x) (list_any q xs) (any_weaker p q all xs rest))
    (or_cases (p x) (list_any p xs) is)

new_kept : {A : Type 0} (same : A → A → Bool) (q : A → Bool) (kept : List A) (one : A) → list_any q kept ≡ true → list_any q (with_new same kept one) ≡ true
new_kept same q kept one is = ⊎_elim
    (λ (old : list_any (same one) kept ≡ true). ap (list_any q) (new_old same kept one old) ∙ is)
    (λ (new : list_any (same one) kept ≡ false). ap (list_any q) (new_more same kept one new) ∙ any_more q kept (one ∷ []) is)
    (cases_Bool (list_any (same one) kept))

pub fold_kept : {A : Type 0} (same : A → A → Bool) (q : A → Bool) (kept all : List A) → list_any q kept ≡ true → list_any q (fold (with_new same) kept all) ≡ true
fold_kept same q kept [] is = is
fold_kept same q kept (one ∷ all) is = fold_kept same q (with_new same kept one) all (new_kept same q kept one is)

-- a test that goes by the kind
new_there : {A : Type 0} (same : A → A → Bool) (q : A → Bool) → ((x y : A) → q x ≡ true → same x y ≡ true → q y ≡ true) → (kept : List A) (one : A) → q one ≡ true → list_any q (with_new same kept one) ≡ true
new_there same q respects kept one is = ⊎_elim
    (λ (old : list_any (same one) kept ≡ true). ap (list_any q) (new_old same kept one old) ∙ any_weaker (same one) q (λ y alike. respects one y is alike) kept old)
    (λ (new : list_any (same one) kept ≡ false). ap (list_any q) (new_more same kept one new) ∙ any_last q kept one is)
    (cases_Bool (list_any (same one) kept))

-- is passed by one of the first ones, if one of all passes it
pub fold_there : {A : Type 0} (same : A → A → Bool) (q : A → Bool) → ((x y : A) → q x ≡ true → same x y ≡ true → q y ≡ true) → (kept all : List A) → list_any q all ≡ true → list_any q (fold (with_new same) kept all) ≡ true
fold_there same q respects kept [] is = absurd (cc is)
fold_there same q respects kept (one ∷ all) is = ⊎_elim
    (λ first. fold_kept same q (with_new same kept one) all (new_there same q respects kept one first))
    (λ rest. fold_there same q respects (with_new same kept one) all rest)
    (or_cases (q one) (list_any q all) is)

-- of what is made of some of them the kinds stay, if each kind is looked at once
module _ {A X : Type 0} (same : A → A → Bool) (alike : X → X → Bool) (p : X → Bool) (g : X → A) (trans : (x y z : A) → same x y ≡ true → same y z ≡ true → same x z ≡ true)
    (tests : (x y : X) → alike x y ≡ true → p x ≡ p y) (makes : (x y : X) → alike x y ≡ true → same (g x) (g y) ≡ true) where
  made_push : (told : List A) (xs ys : List X) → fold (with_new same) told (map g (filter p (xs ++ ys))) ≡ fold (with_new same) (fold (with_new same) told (map g (filter p xs))) (map g (filter p ys))
  made_push told xs ys =
      ap (λ (all : List X). fold (with_new same) told (map g all)) (filter-append p xs ys)
      ∙ ap (fold (with_new same) told) (map-append g (filter p xs) (filter p ys))
      ∙ fold-append (with_new same) told (map g (filter p xs)) (map g (filter p ys))

  one_there : (x : X) (kept : List X) → list_any (alike x) kept ≡ true → p x ≡ true → list_any (same (g x)) (map g (filter p kept)) ≡ true
  one_there x [] is pass = is
  one_there x (y ∷ kept) is pass = ⊎_elim
      (λ (first : alike x y ≡ true).
      ap (λ (b : Bool). list_any (same (g x)) (map g (cond b (y ∷ filter p kept) (filter p kept)))) (sym (tests x y first) ∙ pass)
      ∙ or_left (same (g x) (g y)) (list_any (same (g x)) (map g (filter p kept))) (makes x y first))
      (λ (rest : list_any (alike x) kept ≡ true).
      let there = one_there x kept rest pass in
      ⊎_elim
      (λ (yes : p y ≡ true).
      ap (λ (b : Bool). list_any (same (g x)) (map g (cond b (y ∷ filter p kept) (filter p kept)))) yes
      ∙ or_right (same (g x) (g y)) (list_any (same (g x)) (map g (filter p kept))) there)
      (λ (no : p y ≡ false). ap (λ (b : Bool). list_any (same (g x)) (map g (cond b (y ∷ filter p kept) (filter p kept)))) no ∙ there)
      (cases_Bool (p y)))
      (or_cases (alike x y) (list_any (alike x) kept) is)

  twice : (told : List A) (x : X) (kept : List X) → list_any (alike x) kept ≡ true → fold (with_new same) told (map g (filter p (kept ++ x ∷ []))) ≡ fold (with_new same) told (map g (filter p kept))
  twice told x kept is =
      made_push told kept (x ∷ [])
      ∙ ⊎_elim
      (λ (yes : p x ≡ true).
      ap (λ (b : Bool). fold (with_new same) (fold (with_new same) told (map g (filter p kept))) (map g (cond b (x ∷ []) []))) yes
      ∙ new_old same (fold (with_new same) told (map g (filter p kept))) (g x) (fold_there same (same (g x)) (λ y z. trans (g x) y z) told (map g (filter p kept)) (one_there x kept is yes)))
      (λ (no : p x ≡ false). ap (λ (b : Bool). fold (with_new same) (fold (with_new same) told (map g (filter p kept))) (map g (cond b (x ∷ []) []))) no)
      (cases_Bool (p x))

  pub made_once : (told : List A) (kept xs : List X) → fold (with_new same) told (map g (filter p (kept ++ xs))) ≡ fold (with_new same) told (map g (filter p (fold (with_new alike) kept xs)))
  made_once told kept [] = ap (λ (all : List X). fold (with_new same) told (map g (filter p all))) (append-nil kept)
  made_once told kept (x ∷ xs) =
      ap (λ (all : List X). fold (with_new same) told (map g (filter p all))) (sym (append_assoc kept (x ∷ []) xs))
      ∙ ⊎_elim
      (λ (old : list_any (alike x) kept ≡ true).
      made_push told (kept ++ x ∷ []) xs
      ∙ ap (λ (now : List A). fold (with_new same) now (map g (filter p xs))) (twice told x kept old)
      ∙ sym (made_push told kept xs)
      ∙ made_once told kept xs
      ∙ ap (λ (now : List X). fold (with_new same) told (map g (filter p (fold (with_new alike) now xs)))) (sym (new_old alike kept x old)))
      (λ (new : list_any (alike x) kept ≡ false).
      made_once told (kept ++ x ∷ []) xs
      ∙ ap (λ (now : List X). fold (with_new same) told (map g (filter p (fold (with_new alike) now xs)))) (sym (new_more alike kept x new)))
      (cases_Bool (list_any (alike x) kept))

pub none_there : {A : Type 0} (one : A) → Contains [] one → ⊥
none_there one (index, inside, is) = absurd (omega arith)

pub any_map : {A B : Type 0} (p : B → Bool) (h : A → B) (xs : List A) → list_any p (map h xs) ≡ list_any (λ x. p (h x)) xs
any_map p h [] = refl
any_map p h (x ∷ xs) = ap (λ (b : Bool). p (h x) || b) (any_map p h xs)
