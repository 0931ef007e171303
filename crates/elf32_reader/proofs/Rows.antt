-- How the refusals and the segments of the first program headers grow by one header.
use Rattle.std.proofs.Common.{◌≡◌, ℕ, zero, suc, ◌+◌, ◌<◌, ◌≤◌, Bool, true, false, cond, Option, Some, None, List, [], ◌∷◌, ◌++◌, refl, ap, ◌∙◌, arith, add-one, inl, inr, map, filter}
use Rattle.std.proofs.lemmas.Bool.{cases_lt}
use Rattle.std.proofs.lemmas.List.FromFn.{filter_of_map_range_with_len_more}
use Rattle.elf32_reader.specs.declared.program_header.ProgramHeader.{ProgramHeader}
use Rattle.std.proofs.lemmas.List.{append-nil, map-append}
use Rattle.std.proofs.lemmas.List.Concat.{flat_map-append}
use Rattle.std.specs.List.{range_with_len, flat_map}
use Rattle.elf32_reader.specs.declared.fault.ElfFault.{ElfFault}
use Rattle.elf32_reader.specs.Fields.{file_header, program_header}
use Rattle.elf32_reader.specs.LoadSegment.{LoadSegment}
use Rattle.elf32_reader.specs.Segments.{is_segment, segment_of, segments_before, image_of}
use Rattle.elf32_reader.specs.Refusals.{Refusal, first_applying, row_refusals, table_refusals, file_refusals, image_refusals, first_refusal}

-- where the first list has none that applies, the second decides
pub first_applying-append_none : (xs ys : List Refusal) → first_applying xs ≡ None → first_applying (xs ++ ys) ≡ first_applying ys
unfolding first_applying
first_applying-append_none [] ys h = refl
first_applying-append_none (x ∷ xs) ys h =
    elim x.1 as (λ b. (cond b (Some x.0) (first_applying xs) ≡ None) → cond b (Some x.0) (first_applying (xs ++ ys)) ≡ first_applying ys) [
      | true ↦ λ applies. cc
      | false ↦ λ none. first_applying-append_none xs ys none
    ]
    h

-- where one of the first list applies, it decides
pub first_applying-append_some : (xs ys : List Refusal) (fault : ElfFault) → first_applying xs ≡ Some fault → first_applying (xs ++ ys) ≡ Some fault
unfolding first_applying
first_applying-append_some [] ys fault h = cc
first_applying-append_some (x ∷ xs) ys fault h =
    elim x.1 as (λ b. (cond b (Some x.0) (first_applying xs) ≡ Some fault) → cond b (Some x.0) (first_applying (xs ++ ys)) ≡ Some fault) [
      | true ↦ λ applies. applies
      | false ↦ λ some. first_applying-append_some xs ys fault some
    ]
    h

-- where none of two lists applies, none of each does
pub none_of_both : (xs ys : List Refusal) → first_applying (xs ++ ys) ≡ None → (first_applying xs ≡ None) × (first_applying ys ≡ None)
unfolding first_applying
none_of_both [] ys h = (refl, h)
none_of_both (x ∷ xs) ys h =
    elim x.1 as (λ b. (cond b (Some x.0) (first_applying (xs ++ ys)) ≡ None) → (cond b (Some x.0) (first_applying xs) ≡ None) × (first_applying ys ≡ None)) [
      | true ↦ λ applies. absurd cc
      | false ↦ λ none. none_of_both xs ys none
    ]
    h

-- where the first refusal doesn't apply and none of the others does
pub none_of_cons : (fault : ElfFault) (applies : Bool) (refusals : List Refusal) → first_applying ((fault, applies) ∷ refusals) ≡ None → (applies ≡ false) × (first_applying refusals ≡ None)
unfolding first_applying
none_of_cons fault true refusals h = absurd cc
none_of_cons fault false refusals h = (refl, h)

range_more : (a n : ℕ) → range_with_len a (suc n) ≡ range_with_len a n ++ (a + n) ∷ []
range_more a zero = ap (λ x. x ∷ []) (omega arith)
range_more a (suc n) = ap (λ xs. a ∷ xs) (range_more (a + 1) n ∙ ap (λ x. range_with_len (a + 1) n ++ x ∷ []) (omega arith))

pub table_refusals-more : (file : List ℕ) (n : ℕ) → table_refusals file (suc n) ≡ table_refusals file n ++ row_refusals file n
unfolding table_refusals
table_refusals-more file n =
    let range : range_with_len 0 (suc n) ≡ range_with_len 0 n ++ n ∷ [] = range_more 0 n ∙ ap (λ x. range_with_len 0 n ++ x ∷ []) (omega arith) in
    ap (flat_map (row_refusals file)) range
    ∙ flat_map-append (row_refusals file) (range_with_len 0 n) (n ∷ [])
    ∙ ap (λ xs. flat_map (row_refusals file) (range_with_len 0 n) ++ xs) (append-nil (row_refusals file n))

-- where none of the refusals of more program headers applies, none of those of fewer does
pub none_of_fewer : (file : List ℕ) (n m : ℕ) → n ≤ m → first_applying (table_refusals file m) ≡ None → first_applying (table_refusals file n) ≡ None
none_of_fewer file n zero h none = rw (let same : n ≡ zero = omega arith in same) none
none_of_fewer file n (suc m) h none =
    elim (cases_lt m n) [
      | inl beyond ↦ rw (let same : n ≡ suc m = omega arith in same) none
      | inr within ↦ none_of_fewer file n m within (none_of_both (table_refusals file m) (row_refusals file m) (rw table_refusals-more at none)).0
    ]

-- and none of each of them
pub none_of_row : (file : List ℕ) (n m : ℕ) → n < m → first_applying (table_refusals file m) ≡ None → first_applying (row_refusals file n) ≡ None
none_of_row file n m h none =
    let fewer : first_applying (table_refusals file (suc n)) ≡ None = none_of_fewer file (suc n) m (omega arith) none in
    (none_of_both (table_refusals file n) (row_refusals file n) (rw table_refusals-more at fewer)).1

-- one more program header that isn't refused
pub none_of_more : (file : List ℕ) (n : ℕ) → first_applying (table_refusals file n) ≡ None → first_applying (row_refusals file n) ≡ None → first_applying (table_refusals file (n + 1)) ≡ None
none_of_more file n table row =
    rw (add-one, table_refusals-more) (first_applying-append_none (table_refusals file n) (row_refusals file n) table ∙ row)

-- the first program header that is refused decides
pub table_stops : (file : List ℕ) (n m : ℕ) (fault : ElfFault) → n < m → first_applying (table_refusals file n) ≡ None → first_applying (row_refusals file n) ≡ Some fault → first_applying (table_refusals file m) ≡ Some fault
table_stops file n zero fault h table row = absurd (omega arith)
table_stops file n (suc m) fault h table row =
    rw table_refusals-more
    (elim (cases_lt n m) [
      | inl within ↦ first_applying-append_some (table_refusals file m) (row_refusals file m) fault (table_stops file n m fault within table row)
      | inr beyond ↦
          let same : n ≡ m = omega arith in
          first_applying-append_none (table_refusals file m) (row_refusals file m) (rw (← same) table) ∙ rw (← same) row
    ])

-- the segments that one more program header adds
pub segments_before-more : (file : List ℕ) (n : ℕ) → segments_before file (n + 1) ≡ segments_before file n ++ cond (is_segment (program_header file n)) (segment_of file (program_header file n) ∷ []) []
unfolding segments_before
segments_before-more file n =
    ap (map (segment_of file)) (filter_of_map_range_with_len_more is_segment (program_header file) 0 n n (omega arith))
    ∙ map-append (segment_of file) (filter is_segment (map (program_header file) (range_with_len 0 n))) (cond (is_segment (program_header file n)) (program_header file n ∷ []) [])
    ∙ ap (λ xs. segments_before file n ++ xs) (map_cond (segment_of file) (is_segment (program_header file n)) (program_header file n))
  where
    map_cond : (f : ProgramHeader → LoadSegment) (b : Bool) (header : ProgramHeader) → map f (cond b (header ∷ []) []) ≡ cond b (f header ∷ []) []
    map_cond f true header = refl
    map_cond f false header = refl

-- the refusals of a file decide in their order
pub refusal_of_file : (file : List ℕ) (fault : ElfFault) → first_applying (file_refusals file) ≡ Some fault → first_refusal file ≡ Some fault
unfolding first_refusal
refusal_of_file file fault applies = first_applying-append_some (file_refusals file) _ fault applies

pub refusal_of_table : (file : List ℕ) (fault : ElfFault) → first_applying (file_refusals file) ≡ None → first_applying (table_refusals file (file_header file).e_phnum) ≡ Some fault → first_refusal file ≡ Some fault
unfolding first_refusal
refusal_of_table file fault none applies =
    first_applying-append_none (file_refusals file) _ none ∙ first_applying-append_some (table_refusals file (file_header file).e_phnum) _ fault applies

pub refusal_of_image : (file : List ℕ) (verdict : Option ElfFault) → first_applying (file_refusals file) ≡ None → first_applying (table_refusals file (file_header file).e_phnum) ≡ None → first_applying (image_refusals (image_of file)) ≡ verdict → first_refusal file ≡ verdict
unfolding first_refusal
refusal_of_image file verdict none table image =
    first_applying-append_none (file_refusals file) _ none ∙ (first_applying-append_none (table_refusals file (file_header file).e_phnum) _ table ∙ image)

pub ruleset testing = (first_applying-append_none, first_applying-append_some)
