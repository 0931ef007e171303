use Rattle.std.proofs.Common.{◌≡◌, ℕ, ◌+◌, ◌-◌, ◌≤◌, Some, List, [], ◌∷◌, ◌++◌, length, take, drop, refl, sym, ◌∙◌, ap, ap₂, arith, inl, inr, eq-eqb}
use Rattle.std.specs.Prelude.{option_map}
use Rattle.std.proofs.lemmas.Bool.{cases_eq, ne_eqb}
use Rattle.std.proofs.lemmas.List.{length-append, length-take-le, length-drop, drop-drop, take-append-drop, append-nil}
use Rattle.std.proofs.lemmas.Simd.{length-chunk}
use Rattle.std.proofs.Math.Path.{fun_ext}
use lib.Lanes.{chunk}
use Rattle.paged_memory.specs.Bytes.{with_part}
use Rattle.paged_memory.specs.Page.{PageValue}
use Rattle.paged_memory.specs.PageMap.{PageMap, with_page}
use Rattle.commit.specs.Bytes.{differing_count, differing_from, merged_bytes}
use Rattle.commit.proofs.Blocks.{differing_count-append, merged_bytes-append, differing_from-append, length-merged_bytes}

-- a list is its first part, some more and the rest
parts : (xs : List ℕ) (at more : ℕ) → take at xs ++ (chunk at more xs ++ drop (at + more) xs) ≡ xs
parts xs at more =
    ap (λ rest. take at xs ++ (chunk at more xs ++ rest)) (sym (drop-drop more at xs))
    ∙ ap (λ rest. take at xs ++ rest) (take-append-drop more (drop at xs)) ∙ take-append-drop at xs

-- bytes of which none differ are the same
same-bytes : (copy mine : List ℕ) → length copy ≡ length mine → differing_count copy mine ≡ 0 → copy ≡ mine
unfolding differing_count
same-bytes [] [] sizes none = refl
same-bytes [] (m ∷ mine) sizes none = cc
same-bytes (c ∷ copy) [] sizes none = cc
same-bytes (c ∷ copy) (m ∷ mine) sizes none =
    elim (cases_eq c m) [
      | inl same ↦
          (let rest : 0 + differing_count copy mine ≡ 0 = rw (eq-eqb c m same) at none in
          ap₂ (λ x xs. x ∷ xs) same (same-bytes copy mine (omega arith) (omega (arith, rest))))
      | inr apart ↦ (let more : 1 + differing_count copy mine ≡ 0 = rw (ne_eqb c m apart) at none in absurd (omega (arith, more)))
    ]

-- nothing is merged of bytes that nobody changed, and they have no places that differ
merged_bytes-same : (now copy : List ℕ) → length copy ≡ length now → merged_bytes now copy copy ≡ now
unfolding merged_bytes
merged_bytes-same [] copy sizes = refl
merged_bytes-same (n ∷ now) [] sizes = refl
merged_bytes-same (n ∷ now) (c ∷ copy) sizes = rw (eq-eqb c c refl) (ap (λ xs. n ∷ xs) (merged_bytes-same now copy (omega arith)))

differing_from-self : (first : ℕ) (copy : List ℕ) → differing_from first copy copy ≡ []
unfolding differing_from
differing_from-self first [] = refl
differing_from-self first (c ∷ copy) = rw (eq-eqb c c refl) (differing_from-self (first + 1) copy)

module _ (copy : List ℕ) (at more : ℕ) (within : at + more ≤ length copy) where
  -- the bytes that differ, in three parts
  count-parts : (mine : List ℕ) → length copy ≡ length mine → differing_count copy mine
      ≡ differing_count (take at copy) (take at mine)
      + (differing_count (chunk at more copy) (chunk at more mine) + differing_count (drop (at + more) copy) (drop (at + more) mine))
  count-parts mine sizes =
      ap₂ differing_count (sym (parts copy at more)) (sym (parts mine at more))
      ∙ differing_count-append (take at copy) (chunk at more copy ++ drop (at + more) copy) (take at mine) (chunk at more mine ++ drop (at + more) mine)
      (length-take-le at copy (omega arith) ∙ sym (length-take-le at mine (omega arith)))
      ∙ ap (λ rest. differing_count (take at copy) (take at mine) + rest)
      (differing_count-append (chunk at more copy) (drop (at + more) copy) (chunk at more mine) (drop (at + more) mine)
      (length-chunk at more copy within ∙ sym (length-chunk at more mine (omega arith))))

  -- where one part has all bytes that differ, the rest is the same
  pub only-part : (mine : List ℕ) → length copy ≡ length mine → differing_count (chunk at more copy) (chunk at more mine) ≡ differing_count copy mine →
      with_part at (chunk at more mine) copy ≡ mine
  only-part mine sizes all =
      let sum = count-parts mine sizes in
      let size : length (chunk at more mine) ≡ more = length-chunk at more mine (omega arith) in
      let first : take at copy ≡ take at mine =
      same-bytes (take at copy) (take at mine) (length-take-le at copy (omega arith) ∙ sym (length-take-le at mine (omega arith))) (omega (arith, sum, all)) in
      let rest : drop (at + more) copy ≡ drop (at + more) mine =
      same-bytes (drop (at + more) copy) (drop (at + more) mine) (length-drop (at + more) copy ∙ ap (λ n. n - (at + more)) sizes ∙ sym (length-drop (at + more) mine)) (omega (arith, sum, all)) in
      rw size (ap₂ (λ front back. front ++ (chunk at more mine ++ back)) first rest) ∙ parts mine at more

  -- where a part alone differs, that part is merged, and it has all places that differ
  module _ (part : List ℕ) (size : length part ≡ more) where
    sized : with_part at part copy ≡ take at copy ++ (part ++ drop (at + more) copy)
    sized = ap (λ count. take at copy ++ (part ++ drop (at + count) copy)) size

    pub merged-part : (now : List ℕ) → length copy ≡ length now →
        with_part at (merged_bytes (chunk at more now) (chunk at more copy) part) now ≡ merged_bytes now copy (with_part at part copy)
    merged-part now sizes =
        let block = merged_bytes (chunk at more now) (chunk at more copy) part in
        let here : length (chunk at more now) ≡ more = length-chunk at more now (omega arith) in
        let there : length (chunk at more copy) ≡ more = length-chunk at more copy within in
        let long : length block ≡ more = length-merged_bytes (chunk at more now) (chunk at more copy) part ∙ here in
        let front : length (take at copy) ≡ length (take at now) = length-take-le at copy (omega arith) ∙ sym (length-take-le at now (omega arith)) in
        let back : length (drop (at + more) copy) ≡ length (drop (at + more) now) =
        length-drop (at + more) copy ∙ ap (λ n. n - (at + more)) sizes ∙ sym (length-drop (at + more) now) in
        let joined : merged_bytes (take at now ++ (chunk at more now ++ drop (at + more) now)) (take at copy ++ (chunk at more copy ++ drop (at + more) copy)) (take at copy ++ (part ++ drop (at + more) copy))
        ≡ take at now ++ (block ++ drop (at + more) now) =
        merged_bytes-append (take at now) (chunk at more now ++ drop (at + more) now) (take at copy) (chunk at more copy ++ drop (at + more) copy) (take at copy) (part ++ drop (at + more) copy) front front
        ∙ ap₂ (λ xs ys. xs ++ ys) (merged_bytes-same (take at now) (take at copy) front)
        (merged_bytes-append (chunk at more now) (drop (at + more) now) (chunk at more copy) (drop (at + more) copy) part (drop (at + more) copy) (there ∙ sym here) (size ∙ sym here)
        ∙ ap (λ ys. block ++ ys) (merged_bytes-same (drop (at + more) now) (drop (at + more) copy) back)) in
        ap (λ count. take at now ++ (block ++ drop (at + count) now)) long
        ∙ sym joined
        ∙ ap₂ (λ xs ys. merged_bytes xs ys (take at copy ++ (part ++ drop (at + more) copy))) (parts now at more) (parts copy at more)
        ∙ ap (merged_bytes now copy) (sym sized)

    pub differing-part : (first : ℕ) → differing_from (first + at) (chunk at more copy) part ≡ differing_from first copy (with_part at part copy)
    differing-part first =
        let front : length (take at copy) ≡ at = length-take-le at copy (omega arith) in
        let there : length (chunk at more copy) ≡ more = length-chunk at more copy within in
        let joined : differing_from first (take at copy ++ (chunk at more copy ++ drop (at + more) copy)) (take at copy ++ (part ++ drop (at + more) copy))
        ≡ differing_from (first + at) (chunk at more copy) part =
        differing_from-append first (take at copy) (chunk at more copy ++ drop (at + more) copy) (take at copy) (part ++ drop (at + more) copy) refl
        ∙ ap₂ (λ xs ys. xs ++ ys) (differing_from-self first (take at copy))
        (ap (λ count. differing_from (first + count) (chunk at more copy ++ drop (at + more) copy) (part ++ drop (at + more) copy)) front
        ∙ differing_from-append (first + at) (chunk at more copy) (drop (at + more) copy) part (drop (at + more) copy) (there ∙ sym size)
        ∙ ap (λ ys. differing_from (first + at) (chunk at more copy) part ++ ys) (differing_from-self (first + at + length (chunk at more copy)) (drop (at + more) copy))
        ∙ append-nil (differing_from (first + at) (chunk at more copy) part)) in
        sym joined
        ∙ ap (λ xs. differing_from first xs (take at copy ++ (part ++ drop (at + more) copy))) (parts copy at more)
        ∙ ap (differing_from first copy) (sym sized)

    pub length-part : length (with_part at part copy) ≡ length copy
    length-part =
        let front : length (take at copy) ≡ at = length-take-le at copy (omega arith) in
        let back = length-drop (at + more) copy in
        let sum = length-append (take at copy) (part ++ drop (at + more) copy) in
        let sum' = length-append part (drop (at + more) copy) in
        ap length sized ∙ omega (arith, front, back, sum, sum', within, size)

-- what is made of the page of a number that is mapped
pub with_page-mapped : (pages : PageMap) (number : ℕ) (page : PageValue) (made : PageValue → PageValue) → pages number ≡ Some page →
    with_page number (option_map made) pages ≡ with_page number (λ _. Some (made page)) pages
unfolding with_page
with_page-mapped pages number page made mapped = fun_ext (λ other.
    elim (cases_eq number other) [
      | inl here ↦ (let found : pages other ≡ Some page = ap pages (sym here) ∙ mapped in rw (eq-eqb number other here, found) refl)
      | inr apart ↦ rw (ne_eqb number other apart) refl
    ])
