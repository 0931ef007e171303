use Rattle.std.proofs.Common.{◌≡◌, ℕ, zero, suc, ◌+◌, ◌<◌, ◌≤◌, ◌==◌, Bool, true, false, not, cond, List, [], ◌∷◌, ◌++◌, length, refl, add-zero, arith}
use Rattle.std.specs.Prelude.{filter, slice_index}
use Rattle.commit.specs.Bytes.{differing_from}
use Rattle.std.specs.List.{range_with_len}

-- so many numbers from a first on, those that pass a test
unfoldable pub passing : (ℕ → Bool) → ℕ → ℕ → List ℕ
passing test first count = filter test (range_with_len first count)

pub passing-more : (test : ℕ → Bool) (first count : ℕ) → passing test first (suc count) ≡ cond (test first) (first ∷ passing test (first + 1) count) (passing test (first + 1) count)
unfolding passing
passing-more test first count = refl

-- some numbers and then more
pub passing-append : (test : ℕ → Bool) (first count more : ℕ) → passing test first (count + more) ≡ passing test first count ++ passing test (first + count) more
unfolding passing
passing-append test first zero more = (let e : zero + more ≡ more = omega arith in let f : first + zero ≡ first = omega arith in rw (e, f) refl)
passing-append test first (suc count) more =
    let e : suc count + more ≡ suc (count + more) = omega arith in
    let f : first + suc count ≡ first + 1 + count = omega arith in
    rw (e, f, passing-append test (first + 1) count more) (either (test first))
  where
    either : (passed : Bool) →
        cond passed (first ∷ (passing test (first + 1) count ++ passing test (first + 1 + count) more)) (passing test (first + 1) count ++ passing test (first + 1 + count) more)
        ≡ cond passed (first ∷ passing test (first + 1) count) (passing test (first + 1) count) ++ passing test (first + 1 + count) more
    either true = refl
    either false = refl

-- two tests that agree on them
pub passing-same : (test other : ℕ → Bool) (first count : ℕ) → ((number : ℕ) → first ≤ number → number < first + count → test number ≡ other number) →
    passing test first count ≡ passing other first count
unfolding passing
passing-same test other first zero same = refl
passing-same test other first (suc count) same =
    rw (same first (omega arith) (omega arith), passing-same test other (first + 1) count (λ number above below. same number (omega arith) (omega arith))) refl

-- none passes
pub passing-none : (test : ℕ → Bool) (first count : ℕ) → ((number : ℕ) → first ≤ number → number < first + count → test number ≡ false) →
    passing test first count ≡ []
unfolding passing
passing-none test first zero none = refl
passing-none test first (suc count) none =
    rw (none first (omega arith) (omega arith)) (passing-none test (first + 1) count (λ number above below. none number (omega arith) (omega arith)))

-- at most all pass
pub length-passing-small : (test : ℕ → Bool) (first count : ℕ) → length (passing test first count) ≤ count
unfolding passing
length-passing-small test first zero = omega arith
length-passing-small test first (suc count) = let rest : length (passing test (first + 1) count) ≤ count = length-passing-small test (first + 1) count in either (test first) rest
  where
    either : (passed : Bool) → length (passing test (first + 1) count) ≤ count → length (cond passed (first ∷ passing test (first + 1) count) (passing test (first + 1) count)) ≤ suc count
    either true rest = omega arith
    either false rest = omega arith

-- Of as many numbers as two lists have bytes those pass at which the bytes differ.
pub passing-differing : (test : ℕ → Bool) (first : ℕ) (copy mine : List ℕ) → length copy ≡ length mine →
    ((index : ℕ) → index < length copy → test (first + index) ≡ not (slice_index copy index == slice_index mine index)) →
    passing test first (length copy) ≡ differing_from first copy mine
unfolding differing_from passing
passing-differing test first [] [] sizes same = refl
passing-differing test first [] (m ∷ mine) sizes same = cc
passing-differing test first (c ∷ copy) [] sizes same = cc
passing-differing test first (c ∷ copy) (m ∷ mine) sizes same =
    let start : test (first + 0) ≡ not (c == m) = same 0 (omega arith) in
    let here : test first ≡ not (c == m) = simp add-zero at start in
    let rest : passing test (first + 1) (length copy) ≡ differing_from (first + 1) copy mine =
    passing-differing test (first + 1) copy mine (omega arith)
    (λ index below. let f : first + 1 + index ≡ first + suc index = omega arith in rw f (same (suc index) (omega arith))) in
    rw (here, rest) (either (c == m))
  where
    either : (equal : Bool) →
        cond (not equal) (first ∷ differing_from (first + 1) copy mine) (differing_from (first + 1) copy mine)
        ≡ cond equal (differing_from (first + 1) copy mine) (first ∷ differing_from (first + 1) copy mine)
    either true = refl
    either false = refl
