-- How many different keys there are with one more at the end.
use Rattle.std.proofs.Common.{◌≡◌, ℕ, suc, ◌||◌, Bool, true, false, cond, List, [], ◌∷◌, ◌++◌, length, refl, sym, ◌∙◌, ap, eqb, leb, arith}
use Rattle.std.specs.Cmp.{IsEquivalence, nat_eq_equiv}
use Rattle.std.specs.Set.{distinct_count, is_member, unique_keys}
use Rattle.std.proofs.lemmas.Bool.{le-leb, leb-true}
use Rattle.std.proofs.lemmas.List.Folds.{list_any-append}
use Rattle.sharing_report.specs.Changers.{two_of}
use Rattle.sharing_report.proofs.Distinct.{distinct_count-same}

or_none : (b : Bool) → (b || false) ≡ b
or_none true = refl
or_none false = refl

swapped : (a b : Bool) → (a || b) ≡ (b || a)
swapped true true = refl
swapped true false = refl
swapped false true = refl
swapped false false = refl

module _ {K : Type 0} {eq : K → K → Bool} (laws : IsEquivalence eq) where
  pub member-snoc : (xs : List K) (x q : K) → is_member eq (xs ++ x ∷ []) q ≡ (is_member eq xs q || eq q x)
  member-snoc xs x q = list_any-append (eq q) xs (x ∷ []) ∙ ap (λ (b : Bool). is_member eq xs q || b) (or_none (eq q x))

  pub counted : (x : K) (xs : List K) (here : Bool) → length (cond here (unique_keys eq xs) (x ∷ unique_keys eq xs)) ≡ cond here (distinct_count eq xs) (suc (distinct_count eq xs))
  counted x xs true = refl
  counted x xs false = refl

  pub distinct_count-snoc : (xs : List K) (x : K) → distinct_count eq (xs ++ x ∷ []) ≡ cond (is_member eq xs x) (distinct_count eq xs) (suc (distinct_count eq xs))
  distinct_count-snoc xs x =
      distinct_count-same laws (xs ++ x ∷ []) (x ∷ xs) (λ q. member-snoc xs x q ∙ swapped (is_member eq xs q) (eq q x))
      ∙ counted x xs (is_member eq xs x)

two_more : (n : ℕ) (here : Bool) → leb 2 n ≡ true → leb 2 (cond here n (suc n)) ≡ true
two_more n true two = two
two_more n false two = le-leb 2 (suc n) (omega (arith, leb-true 2 n two))

-- two different numbers stay two
pub two_of-more : (numbers : List ℕ) (number : ℕ) → two_of numbers ≡ true → two_of (numbers ++ number ∷ []) ≡ true
two_of-more numbers number two = ap (leb 2) (distinct_count-snoc nat_eq_equiv numbers number) ∙ two_more (distinct_count eqb numbers) (is_member eqb numbers number) two

-- numbers that are all one
pub one_alone : (numbers : List ℕ) (number : ℕ) → ((other : ℕ) → is_member eqb numbers other ≡ eqb other number) → distinct_count eqb numbers ≡ 1
one_alone numbers number same = distinct_count-same nat_eq_equiv numbers (number ∷ []) (λ other. same other ∙ sym (or_none (eqb other number)))
