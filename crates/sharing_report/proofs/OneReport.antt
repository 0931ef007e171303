use Rattle.std.proofs.Common.{◌≡◌, ℕ, zero, suc, ◌<◌, List, [], ◌∷◌, map, refl, sym, ◌∙◌, ap, subst, arith}
use Rattle.std.specs.Prelude.{◌↔◌}
use Rattle.std.specs.List.{All, Contains}
use Rattle.std.specs.List.Sorted.{IsStrictlyIncreasing}
use Rattle.std.proofs.lemmas.List.Elements.{All-head, All-tail}
use Rattle.std.proofs.lemmas.List.Kept.{AllPairs-from_increasing}
use native.Mathlib.Numerals.{unary_clauses}
use Rattle.token.specs.Change.{Change}
use Rattle.sharing_report.specs.Sharing.{IsSharing, row_of}
use Rattle.sharing_report.specs.declared.page_row.PageRow.{PageRow}

-- what a list with a first element has: that one, or one of the rest
data Split (x : ℕ) (xs : List ℕ) (q : ℕ) : Type 0 where
  first : x ≡ q → Split x xs q
  rest : Contains xs q → Split x xs q

split : (x : ℕ) (xs : List ℕ) (q : ℕ) → Contains (x ∷ xs) q → Split x xs q
split x xs q (zero, inside, here) = first here
split x xs q (suc k, inside, here) = rest (k, omega arith, here)

after : (x : ℕ) (xs : List ℕ) (q : ℕ) → Contains xs q → Contains (x ∷ xs) q
after x xs q (k, inside, here) = (suc k, omega arith, here)

-- the first of ascending numbers is below the others
below : (x : ℕ) (xs : List ℕ) (q : ℕ) → IsStrictlyIncreasing (x ∷ xs) → Contains xs q → x < q
below x xs q up (k, inside, here) = subst (λ (n : ℕ). x < n) here (AllPairs-from_increasing (x ∷ xs) up 0 (suc k) q (omega arith) (omega arith))

tail : (x : ℕ) (xs : List ℕ) → IsStrictlyIncreasing (x ∷ xs) → IsStrictlyIncreasing xs
tail x xs up k inside = simp unary_clauses (simp unary_clauses at (up (suc k) (omega arith)))

-- two lists of ascending numbers with the same numbers begin alike
same_first : (x y : ℕ) (xs ys : List ℕ) → IsStrictlyIncreasing (x ∷ xs) → IsStrictlyIncreasing (y ∷ ys) → Split y ys x → Split x xs y → x ≡ y
same_first x y xs ys up other (first e) there = sym e
same_first x y xs ys up other (rest c) (first e) = e
same_first x y xs ys up other (rest c) (rest d) = absurd (omega (arith, below y ys x other c, below x xs y up d))

-- what is above the first stands in the rest
in_rest : (y q : ℕ) (ys : List ℕ) → y < q → Split y ys q → Contains ys q
in_rest y q ys above (first e) = absurd (omega (arith, e))
in_rest y q ys above (rest c) = c

-- ascending lists with the same numbers are equal
same_ascending : (xs ys : List ℕ) → IsStrictlyIncreasing xs → IsStrictlyIncreasing ys → ((q : ℕ) → Contains xs q ↔ Contains ys q) → xs ≡ ys
same_ascending [] [] up other same = refl
same_ascending [] (y ∷ ys) up other same = let found = (same y).1 (0, omega arith, refl) in absurd (omega (arith, found.1))
same_ascending (x ∷ xs) [] up other same = let found = (same x).0 (0, omega arith, refl) in absurd (omega (arith, found.1))
same_ascending (x ∷ xs) (y ∷ ys) up other same =
    let firsts : x ≡ y = same_first x y xs ys up other (split y ys x ((same x).0 (0, omega arith, refl))) (split x xs y ((same y).1 (0, omega arith, refl))) in
    let rests : xs ≡ ys = same_ascending xs ys (tail x xs up) (tail y ys other) (λ q. (
      λ found. in_rest y q ys (subst (λ (n : ℕ). n < q) firsts (below x xs q up found)) (split y ys q ((same q).0 (after x xs q found))),
      λ found. in_rest x q xs (subst (λ (n : ℕ). n < q) (sym firsts) (below y ys q other found)) (split x xs q ((same q).1 (after y ys q found))),
    )) in
    ap (λ (n : ℕ). n ∷ xs) firsts ∙ ap (λ (all : List ℕ). y ∷ all) rests

-- rows are told by their pages
told_by_pages : (changes : List Change) (rows : List PageRow) → All (λ row. row ≡ row_of changes row.page) rows →
    rows ≡ map (row_of changes) (map (λ (row : PageRow). row.page) rows)
told_by_pages changes [] each = refl
told_by_pages changes (row ∷ rows) each =
    ap (λ (one : PageRow). one ∷ rows) (All-head (λ (one : PageRow). one ≡ row_of changes one.page) row rows each)
    ∙ ap (λ (all : List PageRow). row_of changes row.page ∷ all) (told_by_pages changes rows (All-tail (λ (one : PageRow). one ≡ row_of changes one.page) row rows each))

-- changes have one sharing
pub one-sharing : (changes : List Change) (rows others : List PageRow) → IsSharing changes rows → IsSharing changes others → rows ≡ others
one-sharing changes rows others these those =
    told_by_pages changes rows these.numbers
    ∙ ap (map (row_of changes)) (same_ascending (map (λ (row : PageRow). row.page) rows) (map (λ (row : PageRow). row.page) others) these.ascending those.ascending (λ q.
    (λ found. (those.pages q).1 ((these.pages q).0 found), λ found. (these.pages q).1 ((those.pages q).0 found))))
    ∙ sym (told_by_pages changes others those.numbers)
