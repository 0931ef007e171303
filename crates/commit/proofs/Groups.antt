-- A group of blocks in which nothing differs is passed over.
use Rattle.std.proofs.Common.{◌≡◌, ℕ, ◌+◌, ◌*◌, ◌/◌, ◌%◌, ◌^◌, ◌≤◌, ◌==◌, Bool, true, false, not, cond, List, [], ◌∷◌, ◌++◌, length, take, drop, map, replicate, refl, sym, ◌∙◌, ap, arith, eq-eqb, eqb-true, w8, bit_or, bit_xor}
use Rattle.std.proofs.lemmas.List.{drop-drop}
use Rattle.std.proofs.Math.Seq.{take-add}
use Rattle.std.proofs.lemmas.Nat.Bits.{same_from_bits, bit_at_xor, bit_at-zero, bit_at-lt}
use Rattle.std.proofs.lemmas.Simd.{bitmask_splat, length-zip2, length-chunk}
use lib.Bits.{or_add_and, and_le_l, and_le_r}
use lib.Lanes.{zip2, mask_l, top, chunk}
use Rattle.commit.specs.Bytes.{differing_count}
use Rattle.commit.proofs.Blocks.{differ, differing_count-append}

-- the numbers are all 0
AreZero : List ℕ → Type 0
AreZero [] = Unit {0}
AreZero (x ∷ xs) = (x ≡ 0) × AreZero xs

-- where no bit of a mask is set, no lane differs from 0
zero_from_mask : (xs : List ℕ) → mask_l (map (λ x. differ x 0) xs) ≡ 0 → AreZero xs
unfolding AreZero
zero_from_mask [] none = tt
zero_from_mask (x ∷ xs) none = first (x == 0) refl (zero_from_mask xs) none
  where
    first : (same : Bool) → (x == 0) ≡ same → (mask_l (map (λ x. differ x 0) xs) ≡ 0 → AreZero xs) →
        cond (not same) 1 0 + 2 * mask_l (map (λ x. differ x 0) xs) ≡ 0 → (x ≡ 0) × AreZero xs
    first true same rest none = (eqb-true x 0 same, rest (omega arith))
    first false same rest none = absurd (omega arith)

-- what a disjunction of lanes and what the bits that differ say where they are 0
zero_from_or : (xs ys : List ℕ) → length xs ≡ length ys → AreZero (zip2 bit_or xs ys) → AreZero xs × AreZero ys
unfolding AreZero
zero_from_or [] [] sizes zero = (tt, tt)
zero_from_or [] (y ∷ ys) sizes zero = absurd (omega arith)
zero_from_or (x ∷ xs) [] sizes zero = absurd (omega arith)
zero_from_or (x ∷ xs) (y ∷ ys) sizes zero =
    let rest = zero_from_or xs ys (omega arith) zero.1 in
    let either = or_add_and x y in
    ((omega (arith, either, zero.0, and_le_l x y, and_le_r x y), rest.0), (omega (arith, either, zero.0, and_le_l x y, and_le_r x y), rest.1))

same_from_xor : (a b : ℕ) → bit_xor a b ≡ 0 → a ≡ b
same_from_xor a b none =
    same_from_bits a b (λ i. omega (arith, sym (bit_at_xor a b i) ∙ ap (λ n. n / 2 ^ i % 2) none ∙ bit_at-zero i, bit_at-lt a i, bit_at-lt b i))

none_differing : (copy mine : List ℕ) → length copy ≡ length mine → AreZero (zip2 bit_xor copy mine) → differing_count copy mine ≡ 0
unfolding differing_count AreZero
none_differing [] [] sizes zero = refl
none_differing [] (m ∷ mine) sizes zero = absurd (omega arith)
none_differing (c ∷ copy) [] sizes zero = absurd (omega arith)
none_differing (c ∷ copy) (m ∷ mine) sizes zero =
    let rest = none_differing copy mine (omega arith) zero.1 in rw (eq-eqb c m (same_from_xor c m zero.0)) (omega (arith, rest))

-- the bytes of two parts side by side that differ
chunk-more : (at first more : ℕ) (bytes : List ℕ) → chunk at (first + more) bytes ≡ chunk at first bytes ++ chunk (at + first) more bytes
chunk-more at first more bytes = take-add first more (drop at bytes) ∙ ap (λ rest. chunk at first bytes ++ take more rest) (drop-drop first at bytes)

pub count-more : (copy mine : List ℕ) (at first more : ℕ) → at + first ≤ length copy → at + first ≤ length mine →
    differing_count (chunk at (first + more) copy) (chunk at (first + more) mine)
    ≡ differing_count (chunk at first copy) (chunk at first mine) + differing_count (chunk (at + first) more copy) (chunk (at + first) more mine)
count-more copy mine at first more within within' =
    rw (chunk-more at first more copy, chunk-more at first more mine)
    (differing_count-append (chunk at first copy) (chunk (at + first) more copy) (chunk at first mine) (chunk (at + first) more mine)
    (length-chunk at first copy within ∙ sym (length-chunk at first mine within')))

-- the bits that differ in a block
abbrev pub differing_bits : List ℕ → List ℕ → ℕ → List ℕ
differing_bits copy mine at = zip2 bit_xor (chunk at 32 copy) (chunk at 32 mine)

module _ (copy mine : List ℕ) (at : ℕ) (within : at + 128 ≤ length copy) (within' : at + 128 ≤ length mine) where
  size : (place : ℕ) → place + 32 ≤ at + 128 → length (differing_bits copy mine place) ≡ 32
  size place inside =
      length-zip2 bit_xor (chunk place 32 copy) (chunk place 32 mine) (length-chunk place 32 copy (omega arith) ∙ sym (length-chunk place 32 mine (omega arith)))
      ∙ length-chunk place 32 copy (omega arith)

  none : (place : ℕ) → place + 32 ≤ at + 128 → AreZero (differing_bits copy mine place) → differing_count (chunk place 32 copy) (chunk place 32 mine) ≡ 0
  none place inside zero =
      none_differing (chunk place 32 copy) (chunk place 32 mine) (length-chunk place 32 copy (omega arith) ∙ sym (length-chunk place 32 mine (omega arith))) zero

  sum-of-four : differing_count (chunk at 128 copy) (chunk at 128 mine)
      ≡ differing_count (chunk at 32 copy) (chunk at 32 mine)
      + (differing_count (chunk (at + 32) 32 copy) (chunk (at + 32) 32 mine)
      + (differing_count (chunk (at + 64) 32 copy) (chunk (at + 64) 32 mine) + differing_count (chunk (at + 96) 32 copy) (chunk (at + 96) 32 mine)))
  sum-of-four =
      let e : at + 32 + 32 ≡ at + 64 = omega arith in
      let e' : at + 64 + 32 ≡ at + 96 = omega arith in
      let first = count-more copy mine at 32 96 (omega arith) (omega arith) in
      let second = count-more copy mine (at + 32) 32 64 (omega arith) (omega arith) in
      let third = count-more copy mine (at + 64) 32 32 (omega arith) (omega arith) in
      first ∙ ap (λ n. differing_count (chunk at 32 copy) (chunk at 32 mine) + n)
      (second ∙ ap (λ n. differing_count (chunk (at + 32) 32 copy) (chunk (at + 32) 32 mine) + n) (rw e (third ∙ rw e' refl)))

  pub same-group : mask_l (map (top 7) (zip2 (λ c m. cond (differ c m) 255 0)
      (zip2 bit_or (zip2 bit_or (differing_bits copy mine at) (differing_bits copy mine (at + 32))) (zip2 bit_or (differing_bits copy mine (at + 64)) (differing_bits copy mine (at + 96))))
      (replicate 32 0))) % 2 ^ 64 ≡ 0 → differing_count (chunk at 128 copy) (chunk at 128 mine) ≡ 0
  same-group empty =
      let a = differing_bits copy mine at in
      let b = differing_bits copy mine (at + 32) in
      let c = differing_bits copy mine (at + 64) in
      let d = differing_bits copy mine (at + 96) in
      let first : length (zip2 bit_or a b) ≡ 32 = length-zip2 bit_or a b (size at (omega arith) ∙ sym (size (at + 32) (omega arith))) ∙ size at (omega arith) in
      let last : length (zip2 bit_or c d) ≡ 32 = length-zip2 bit_or c d (size (at + 64) (omega arith) ∙ sym (size (at + 96) (omega arith))) ∙ size (at + 64) (omega arith) in
      let all = zip2 bit_or (zip2 bit_or a b) (zip2 bit_or c d) in
      let long : length all ≡ 32 = length-zip2 bit_or (zip2 bit_or a b) (zip2 bit_or c d) (first ∙ sym last) ∙ first in
      let zero : AreZero all = zero_from_mask all (sym (bitmask_splat w8 differ all 32 0 long (omega arith)) ∙ empty) in
      let halves = zero_from_or (zip2 bit_or a b) (zip2 bit_or c d) (first ∙ sym last) zero in
      let firsts = zero_from_or a b (size at (omega arith) ∙ sym (size (at + 32) (omega arith))) halves.0 in
      let lasts = zero_from_or c d (size (at + 64) (omega arith) ∙ sym (size (at + 96) (omega arith))) halves.1 in
      omega (arith, sum-of-four, none at (omega arith) firsts.0, none (at + 32) (omega arith) firsts.1, none (at + 64) (omega arith) lasts.0, none (at + 96) (omega arith) lasts.1)
