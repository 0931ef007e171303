use Rattle.std.proofs.Common.{◌≡◌, ◌≢◌, ℕ, ◌+◌, ◌-◌, ◌*◌, ◌/◌, ◌%◌, ◌<◌, ◌≤◌, ◌⊎◌, List, [], ◌++◌, length, replicate, refl, sym, ◌∙◌, ap, arith, inl, inr, eq-eqb, length-set, length-append}
use Rattle.std.specs.Prelude.{slice_set, slice_index, slice_index_or, sum_by}
use Rattle.std.proofs.lemmas.Bool.{cases_eq, cases_lt, ne_eqb}
use Rattle.std.proofs.lemmas.List.{get_or-set_same, get_or-set_other, get_or-replicate, length-replicate, get_or_append_left, get_or-append_right, get_or_past}
use Rattle.std.proofs.lemmas.List.Sums.{sum_by-set, sum_by-le}
use Rattle.std.proofs.lemmas.List.Folds.{sum_by-replicate}
use Rattle.twins.specs.Places.{leaf_of, place_in, leaf_count, HaveLeaves}

-- a number whose group has no leaf has no place
pub place_in-none : (groups leaves : List ℕ) (number : ℕ) → leaf_of groups number ≡ 0 → place_in groups leaves number ≡ 0
unfolding place_in
place_in-none groups leaves number none = rw (eq-eqb (leaf_of groups number) 0 none)

-- where a number's place stands
pub place_in-some : (groups leaves : List ℕ) (number : ℕ) → leaf_of groups number ≢ 0 →
    place_in groups leaves number ≡ slice_index leaves ((leaf_of groups number - 1) * 1024 + number % 1024)
unfolding place_in
place_in-some groups leaves number some = rw (ne_eqb (leaf_of groups number) 0 some)

-- lists of zeros
get_or-replicate-zero : (count index : ℕ) → slice_index (replicate count 0) index ≡ 0
get_or-replicate-zero count index = elim (cases_lt index count) [
  | inl inside ↦ get_or-replicate count index 0 0 inside
  | inr past ↦ get_or_past (replicate count 0) index 0 (rw (length-replicate {A = ℕ} count 0) past)
]

slice_index-zeros : (leaves : List ℕ) (count index : ℕ) → length leaves ≤ index → slice_index (leaves ++ replicate count 0) index ≡ 0
slice_index-zeros leaves count index past =
    get_or-append_right leaves (replicate count 0) (length leaves) index 0 refl past ∙ get_or-replicate-zero count (index - length leaves)

leaf_count-le : (leaf : ℕ) → leaf_count leaf ≤ 1
leaf_count-le leaf = elim (cases_eq leaf 0) [
  | inl none ↦ rw (eq-eqb leaf 0 none) (omega arith)
  | inr some ↦ rw (ne_eqb leaf 0 some) (omega arith)
]

leaf_count-some : (leaf : ℕ) → leaf ≢ 0 → leaf_count leaf ≡ 1
leaf_count-some leaf some = rw (ne_eqb leaf 0 some)

-- a new table
pub HaveLeaves-none : (count : ℕ) → count ≡ 1024 → HaveLeaves (replicate count 0) []
HaveLeaves-none count size = record {
  groups_count = length-replicate {A = ℕ} count 0 ∙ size;
  sizes = (let none : sum_by leaf_count (replicate count 0) ≡ count * 0 = sum_by-replicate leaf_count count 0 in omega arith);
  within = (λ group. rw (get_or-replicate-zero count group) (omega arith));
  distinct = (λ group other some same. absurd (some (get_or-replicate-zero count group)));
}

module _ (groups leaves : List ℕ) (shape : HaveLeaves groups leaves) where
  -- there are at most 1024 leaves
  pub leaves-bound : length leaves ≤ 1024 * 1024
  leaves-bound =
      let most : sum_by leaf_count groups ≤ length groups * 1 = sum_by-le leaf_count 1 groups (λ index other _. leaf_count-le (slice_index_or groups index other)) in
      let sizes : length leaves ≡ 1024 * sum_by leaf_count groups = shape.sizes in
      let count : length groups ≡ 1024 = shape.groups_count in omega arith

  -- the entry of a number whose group has a leaf is there
  pub entry-inside : (number : ℕ) → leaf_of groups number ≢ 0 → (leaf_of groups number - 1) * 1024 + number % 1024 < length leaves
  entry-inside number some = let within : 1024 * leaf_of groups number ≤ length leaves = shape.within (number / 1024) in omega arith

  module _ (group : ℕ) (known : group < 1024) (none : slice_index groups group ≡ 0) where
    -- one more leaf, of zeros
    count : 1024 * (length leaves / 1024) ≡ length leaves
    count = let sizes : length leaves ≡ 1024 * sum_by leaf_count groups = shape.sizes in omega arith

    new : slice_index (slice_set groups group (length leaves / 1024 + 1)) group ≡ length leaves / 1024 + 1
    new = let size : length groups ≡ 1024 = shape.groups_count in get_or-set_same groups group (length leaves / 1024 + 1) 0 (omega arith)

    kept : (other : ℕ) → other ≢ group → slice_index (slice_set groups group (length leaves / 1024 + 1)) other ≡ slice_index groups other
    kept other apart = get_or-set_other groups group other (length leaves / 1024 + 1) 0 apart

    longer : length (leaves ++ replicate 1024 0) ≡ length leaves + 1024
    longer = length-append leaves (replicate 1024 0) ∙ ap (λ size. length leaves + size) (length-replicate {A = ℕ} 1024 0)

    distinct-grown : (one other : ℕ) → slice_index (slice_set groups group (length leaves / 1024 + 1)) one ≢ 0 →
        slice_index (slice_set groups group (length leaves / 1024 + 1)) one ≡ slice_index (slice_set groups group (length leaves / 1024 + 1)) other → one ≡ other
    distinct-grown one other some same = cases (cases_eq one group) (cases_eq other group)
      where
        cases : (one ≡ group) ⊎ (one ≡ group → ⊥) → (other ≡ group) ⊎ (other ≡ group → ⊥) → one ≡ other
        cases (inl first) (inl second) = first ∙ sym second
        cases (inl first) (inr apart) =
            let e : length leaves / 1024 + 1 ≡ slice_index groups other = sym new ∙ (rw first at same) ∙ kept other apart in
            let lower : 1024 * slice_index groups other ≤ length leaves = shape.within other in
            let whole = count in absurd (omega arith)
        cases (inr apart) (inl second) =
            let e : slice_index groups one ≡ length leaves / 1024 + 1 = sym (kept one apart) ∙ (rw second at same) ∙ new in
            let lower : 1024 * slice_index groups one ≤ length leaves = shape.within one in
            let whole = count in absurd (omega arith)
        cases (inr apart) (inr apart') =
            shape.distinct one other (λ nothing. some (kept one apart ∙ nothing)) (sym (kept one apart) ∙ same ∙ kept other apart')

    pub HaveLeaves-grown : HaveLeaves (slice_set groups group (length leaves / 1024 + 1)) (leaves ++ replicate 1024 0)
    HaveLeaves-grown = record {
      groups_count = length-set groups group (length leaves / 1024 + 1) ∙ shape.groups_count;
      sizes = (let size : length groups ≡ 1024 = shape.groups_count in
          let more : sum_by leaf_count (slice_set groups group (length leaves / 1024 + 1)) + leaf_count (slice_index groups group) ≡ sum_by leaf_count groups + leaf_count (length leaves / 1024 + 1) =
          sum_by-set leaf_count groups group (length leaves / 1024 + 1) 0 (omega arith) in
          let old : leaf_count (slice_index groups group) ≡ 0 = rw none refl in
          let one : leaf_count (length leaves / 1024 + 1) ≡ 1 = leaf_count-some (length leaves / 1024 + 1) (λ e. absurd (omega arith)) in
          let sizes : length leaves ≡ 1024 * sum_by leaf_count groups = shape.sizes in
          let size' = longer in omega arith);
      within = (λ other. elim (cases_eq other group) [
        | inl same ↦ rw (same, new, longer) (let whole = count in omega arith)
        | inr apart ↦ rw (kept other apart, longer) (let within : 1024 * slice_index groups other ≤ length leaves = shape.within other in omega arith)
      ]);
      distinct = distinct-grown;
    }

    pub place_in-grown : (number : ℕ) → place_in (slice_set groups group (length leaves / 1024 + 1)) (leaves ++ replicate 1024 0) number ≡ place_in groups leaves number
    place_in-grown number = elim (cases_eq (number / 1024) group) [
      | inl same ↦
          (let leaf : leaf_of (slice_set groups group (length leaves / 1024 + 1)) number ≡ length leaves / 1024 + 1 = rw same new in
          let before : leaf_of groups number ≡ 0 = rw same none in
          let whole = count in
          let size : length leaves ≤ (length leaves / 1024 + 1 - 1) * 1024 + number % 1024 = omega arith in
          place_in-some (slice_set groups group (length leaves / 1024 + 1)) (leaves ++ replicate 1024 0) number (λ e. absurd (omega arith))
          ∙ rw leaf (slice_index-zeros leaves 1024 ((length leaves / 1024 + 1 - 1) * 1024 + number % 1024) size)
          ∙ sym (place_in-none groups leaves number before))
      | inr apart ↦
          (let leaf : leaf_of (slice_set groups group (length leaves / 1024 + 1)) number ≡ leaf_of groups number = kept (number / 1024) apart in
          elim (cases_eq (leaf_of groups number) 0) [
            | inl nothing ↦
                place_in-none (slice_set groups group (length leaves / 1024 + 1)) (leaves ++ replicate 1024 0) number (leaf ∙ nothing)
                ∙ sym (place_in-none groups leaves number nothing)
            | inr some ↦
                place_in-some (slice_set groups group (length leaves / 1024 + 1)) (leaves ++ replicate 1024 0) number (λ e. some (sym leaf ∙ e))
                ∙ rw leaf (get_or_append_left leaves (replicate 1024 0) 0 ((leaf_of groups number - 1) * 1024 + number % 1024) (entry-inside number some))
                ∙ sym (place_in-some groups leaves number some)
          ])
    ]

  -- one entry written
  module _ (number : ℕ) (some : leaf_of groups number ≢ 0) (place : ℕ) where
    pub HaveLeaves-set : (at : ℕ) → HaveLeaves groups (slice_set leaves at place)
    HaveLeaves-set at = record {
      groups_count = shape.groups_count;
      sizes = length-set leaves at place ∙ shape.sizes;
      within = (λ group. rw (length-set leaves at place) (shape.within group));
      distinct = shape.distinct;
    }

    pub place_in-set : place_in groups (slice_set leaves ((leaf_of groups number - 1) * 1024 + number % 1024) place) number ≡ place
    place_in-set =
        place_in-some groups (slice_set leaves ((leaf_of groups number - 1) * 1024 + number % 1024) place) number some
        ∙ get_or-set_same leaves ((leaf_of groups number - 1) * 1024 + number % 1024) place 0 (entry-inside number some)

    pub place_in-kept : (other : ℕ) → other ≢ number →
        place_in groups (slice_set leaves ((leaf_of groups number - 1) * 1024 + number % 1024) place) other ≡ place_in groups leaves other
    place_in-kept other apart = elim (cases_eq (leaf_of groups other) 0) [
      | inl nothing ↦
          place_in-none groups (slice_set leaves ((leaf_of groups number - 1) * 1024 + number % 1024) place) other nothing
          ∙ sym (place_in-none groups leaves other nothing)
      | inr there ↦
          place_in-some groups (slice_set leaves ((leaf_of groups number - 1) * 1024 + number % 1024) place) other there
          ∙ get_or-set_other leaves ((leaf_of groups number - 1) * 1024 + number % 1024) ((leaf_of groups other - 1) * 1024 + other % 1024) place 0 (entries-apart other there apart)
          ∙ sym (place_in-some groups leaves other there)
    ]
      where
        entries-apart : (other : ℕ) → leaf_of groups other ≢ 0 → other ≢ number →
            (leaf_of groups other - 1) * 1024 + other % 1024 ≢ (leaf_of groups number - 1) * 1024 + number % 1024
        entries-apart other there apart same =
            let leaves-same : leaf_of groups other ≡ leaf_of groups number = omega arith in
            let group : other / 1024 ≡ number / 1024 = shape.distinct (other / 1024) (number / 1024) there leaves-same in
            apart (omega arith)

pub ruleset places = (place_in-none, place_in-some)
