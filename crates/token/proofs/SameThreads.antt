-- The test of two lists of threads.
use Rattle.std.proofs.Common.{◌≡◌, ℕ, Bool, true, false, List, [], ◌∷◌, length, refl, sym, subst, arith}
use Rattle.std.proofs.lemmas.Bool.{and_parts, and_from, eq-eqb, eqb-true, ne_eqb}
use Rattle.std.specs.Prelude.{◌==◌}
use Rattle.token.specs.History.{same_threads}

pub same_threads-itself : (list : List ℕ) → same_threads list list ≡ true
unfolding same_threads
same_threads-itself [] = refl
same_threads-itself (thread ∷ rest) = and_from (thread == thread) (same_threads rest rest) (eq-eqb thread thread refl) (same_threads-itself rest)

pub same_threads-from : (list other : List ℕ) → list ≡ other → same_threads list other ≡ true
same_threads-from list other same = subst (λ (other : List ℕ). same_threads list other ≡ true) same (same_threads-itself list)

pub same_threads-true : (list other : List ℕ) → same_threads list other ≡ true → list ≡ other
unfolding same_threads
same_threads-true [] [] same = refl
same_threads-true [] (thread ∷ rest) same = cc
same_threads-true (thread ∷ rest) [] same = cc
same_threads-true (one ∷ rest) (other ∷ others) same =
    let parts = and_parts (one == other) (same_threads rest others) same in
    λ i. eqb-true one other parts.0 i ∷ same_threads-true rest others parts.1 i

pub same_threads-false : (list other : List ℕ) → (list ≡ other → ⊥) → same_threads list other ≡ false
same_threads-false list other apart = by_test (same_threads list other) refl
  where
    by_test : (same : Bool) → same_threads list other ≡ same → same_threads list other ≡ false
    by_test true is = absurd (apart (same_threads-true list other is))
    by_test false is = is

pub same_threads-none : (list : List ℕ) → same_threads list [] ≡ (length list == 0)
unfolding same_threads
same_threads-none [] = refl
same_threads-none (thread ∷ rest) = sym (ne_eqb (length (thread ∷ rest)) 0 (λ same. omega arith))
