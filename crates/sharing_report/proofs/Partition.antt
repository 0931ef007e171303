use Rattle.std.proofs.Common.{◌≡◌, ℕ, zero, suc, ◌<◌, ◌≤◌, ◌&&◌, not, Bool, true, false, cond, List, [], ◌∷◌, length, filter, refl, sym, ◌∙◌, ap, eqb, leb, ltb, arith, take, drop}
use Rattle.std.specs.Prelude.{slice_index_or}
use Rattle.std.specs.List.Sorted.{IsPartitionPoint}
use Rattle.std.proofs.lemmas.Bool.Decides.{nat_tests}
use Rattle.sharing_report.specs.ByteChanges.{bytes_of_page}
use Rattle.sharing_report.specs.declared.byte_change.ByteChange.{ByteChange}

module _ {X : Type 0} where
  -- the elements before the first that fails a test, where no later one passes it
  partition_prefix : (p : X → Bool) (xs : List X) (i : ℕ) → ((k : ℕ) (d : X) → k < i → p (slice_index_or xs k d) ≡ true) →
      ((k : ℕ) (d : X) → i ≤ k → k < length xs → p (slice_index_or xs k d) ≡ false) → take i xs ≡ filter p xs
  partition_prefix p [] zero passing failing = refl
  partition_prefix p [] (suc i) passing failing = refl
  partition_prefix p (x ∷ xs) zero passing failing =
      sym (ap (λ (b : Bool). cond b (x ∷ filter p xs) (filter p xs)) (failing 0 x (omega arith) (omega arith))
      ∙ sym (partition_prefix p xs zero (λ k d h. absurd (omega arith)) (λ k d lo hi. failing (suc k) d (omega arith) (omega arith))))
  partition_prefix p (x ∷ xs) (suc i) passing failing =
      ap (λ (ys : List X). x ∷ ys) (partition_prefix p xs i (λ k d h. passing (suc k) d (omega arith)) (λ k d lo hi. failing (suc k) d (omega arith) (omega arith)))
      ∙ sym (ap (λ (b : Bool). cond b (x ∷ filter p xs) (filter p xs)) (passing 0 x (omega arith)))

  -- and the elements from there on
  partition_back : (p : X → Bool) (xs : List X) (i : ℕ) → ((k : ℕ) (d : X) → k < i → p (slice_index_or xs k d) ≡ true) →
      ((k : ℕ) (d : X) → i ≤ k → k < length xs → p (slice_index_or xs k d) ≡ false) → drop i xs ≡ filter (λ x. not (p x)) xs
  partition_back p [] zero passing failing = refl
  partition_back p [] (suc i) passing failing = refl
  partition_back p (x ∷ xs) zero passing failing =
      ap (λ (ys : List X). x ∷ ys) (partition_back p xs zero (λ k d h. absurd (omega arith)) (λ k d lo hi. failing (suc k) d (omega arith) (omega arith)))
      ∙ sym (ap (λ (b : Bool). cond (not b) (x ∷ filter (λ y. not (p y)) xs) (filter (λ y. not (p y)) xs)) (failing 0 x (omega arith) (omega arith)))
  partition_back p (x ∷ xs) (suc i) passing failing =
      partition_back p xs i (λ k d h. passing (suc k) d (omega arith)) (λ k d lo hi. failing (suc k) d (omega arith) (omega arith))
      ∙ sym (ap (λ (b : Bool). cond (not b) (x ∷ filter (λ y. not (p y)) xs) (filter (λ y. not (p y)) xs)) (passing 0 x (omega arith)))

  -- two tests, one after the other
  filter_twice : (p q r : X → Bool) → ((x : X) → (p x && q x) ≡ r x) → (xs : List X) → filter q (filter p xs) ≡ filter r xs
  filter_twice p q r both [] = refl
  filter_twice p q r both (x ∷ xs) =
      step (p x) (q x) refl (filter_twice p q r both xs) ∙ ap (λ (b : Bool). cond b (x ∷ filter r xs) (filter r xs)) (both x)
    where
      step : (a b : Bool) → q x ≡ b → filter q (filter p xs) ≡ filter r xs →
          filter q (cond a (x ∷ filter p xs) (filter p xs)) ≡ cond (a && b) (x ∷ filter r xs) (filter r xs)
      step false b e rest = rest
      step true true e rest = ap (λ (c : Bool). cond c (x ∷ filter q (filter p xs)) (filter q (filter p xs))) e ∙ ap (λ (ys : List X). x ∷ ys) rest
      step true false e rest = ap (λ (c : Bool). cond c (x ∷ filter q (filter p xs)) (filter q (filter p xs))) e ∙ rest

-- where a page's bytes stand among bytes by ascending pages
pub page_run : (bytes : List ByteChange) (page end start : ℕ) →
    IsPartitionPoint (λ byte. leb byte.page page ≡ true) (λ byte. leb byte.page page ≡ false) bytes end →
    IsPartitionPoint (λ byte. ltb byte.page page ≡ true) (λ byte. ltb byte.page page ≡ false) (take end bytes) start →
    drop start (take end bytes) ≡ bytes_of_page page bytes
unfolding bytes_of_page
page_run bytes page end start up_to below =
    partition_back (λ byte. ltb byte.page page) (take end bytes) start (λ k d h. below.0 k d (omega arith) h) below.1
    ∙ ap (filter (λ byte. not (ltb byte.page page))) (partition_prefix (λ byte. leb byte.page page) bytes end (λ k d h. up_to.0 k d (omega arith) h) up_to.1)
    ∙ filter_twice (λ byte. leb byte.page page) (λ byte. not (ltb byte.page page)) (λ byte. eqb byte.page page) (λ byte. exactly byte.page) bytes
  where
    exactly : (n : ℕ) → (leb n page && not (ltb n page)) ≡ eqb n page
    exactly n = grind (arith, nat_tests)
