use Rattle.std.proofs.Common.{◌≡◌, ◌≢◌, ℕ, zero, suc, ◌+◌, ◌-◌, ◌^◌, ◌<◌, ◌≤◌, true, false, List, [], ◌∷◌, ◌++◌, length, take, eqb, eqb-true, eq-eqb, cond, refl, sym, ◌∙◌, ap, arith, inl, inr, length-append}
use Rattle.std.specs.Prelude.{slice_index, slice_index_or}
use Rattle.std.specs.List.{list_any, IsDistinct}
use Rattle.std.proofs.lemmas.Bool.{cases_eq, cases_lt, ne_eqb}
use Rattle.std.proofs.lemmas.List.{get_or_append_left, get_or_push, get_or_past}
use Rattle.std.proofs.lemmas.List.Folds.{Any-from_list_any}
use Rattle.std.proofs.lemmas.Map.Keys.{IsDistinct-from_apart}
use Rattle.std.proofs.lemmas.Map.Steps.{length-le_from_distinct_below}
use Rattle.std.proofs.lemmas.Grind.{get_or_default_zero}
use Rattle.twins.specs.Listed.{AreListed, next_place, place_among}

-- no number is listed
pub AreListed-none : (place : ℕ → ℕ) → ((number : ℕ) → place number ≡ 0) → AreListed place []
AreListed-none place none = record {
  known = (λ index. omega arith);
  placed = (λ index inside. absurd (omega arith));
  within = (λ number. let nothing : place number ≡ 0 = none number in omega arith);
  listed = (λ number some. absurd (some (none number)));
}

-- the same places, told by another table
pub AreListed-same : (place place' : ℕ → ℕ) (numbers : List ℕ) → ((number : ℕ) → place' number ≡ place number) → AreListed place numbers → AreListed place' numbers
AreListed-same place place' numbers same listed = record {
  known = listed.known;
  placed = (λ index inside. same (slice_index numbers index) ∙ listed.placed index inside);
  within = (λ number. rw (same number) (listed.within number));
  listed = (λ number. rw (same number) (listed.listed number));
}

module _ (place : ℕ → ℕ) (numbers : List ℕ) (listed : AreListed place numbers) where
  -- no two places have one number
  pub numbers-apart : (index other : ℕ) → index < length numbers → other < length numbers → slice_index numbers index ≡ slice_index numbers other → index ≡ other
  numbers-apart index other inside inside' same =
      let one : place (slice_index numbers index) ≡ index + 1 = listed.placed index inside in
      let two : place (slice_index numbers other) ≡ other + 1 = listed.placed other inside' in
      let both : place (slice_index numbers index) ≡ place (slice_index numbers other) = ap place same in omega arith

  -- the page of a number that isn't listed stands nowhere
  pub number-absent : (number : ℕ) → place number ≡ 0 → (index : ℕ) → index < length numbers → slice_index numbers index ≢ number
  number-absent number none index inside same =
      let one : place (slice_index numbers index) ≡ index + 1 = listed.placed index inside in
      let both : place (slice_index numbers index) ≡ place number = ap place same in omega arith

  -- no two numbers are equal
  pub IsDistinct-listed : IsDistinct eqb numbers
  IsDistinct-listed = IsDistinct-from_apart eqb numbers
      (λ index other other' before inside.
      let prefix : index < length numbers = omega arith in
      rw (get_or_default_zero numbers index other' prefix, get_or_default_zero numbers other other' inside)
      (ne_eqb (slice_index numbers index) (slice_index numbers other)
      (λ same. let both : index ≡ other = numbers-apart index other prefix inside same in absurd (omega arith))))

  -- one more number
  module _ (number : ℕ) (small : number < 2 ^ 20) (none : place number ≡ 0) where
    size : length (numbers ++ number ∷ []) ≡ length numbers + 1
    size = length-append numbers (number ∷ [])

    last : slice_index (numbers ++ number ∷ []) (length numbers) ≡ number
    last = get_or_push numbers number 0 (length numbers) refl

    earlier : (index : ℕ) → index < length numbers → slice_index (numbers ++ number ∷ []) index ≡ slice_index numbers index
    earlier index inside = get_or_append_left numbers (number ∷ []) 0 index inside

    small-each : (index : ℕ) → slice_index (numbers ++ number ∷ []) index < 2 ^ 20
    small-each index = elim (cases_lt index (length numbers)) [
      | inl inside ↦ rw (earlier index inside) (listed.known index)
      | inr past ↦ elim (cases_eq index (length numbers)) [
        | inl here ↦ rw (here, last) small
        | inr beyond ↦ rw (get_or_past (numbers ++ number ∷ []) index 0 (let more = size in omega arith)) (omega arith)
      ]
    ]

    apart-each : (index other : ℕ) → index < other → other < length (numbers ++ number ∷ []) →
        slice_index (numbers ++ number ∷ []) index ≢ slice_index (numbers ++ number ∷ []) other
    apart-each index other before inside same =
        let more = size in
        let prefix : index < length numbers = omega arith in
        elim (cases_lt other (length numbers)) [
          | inl within ↦
              (let one : slice_index numbers index ≡ slice_index numbers other = sym (earlier index prefix) ∙ same ∙ earlier other within in
              let both : index ≡ other = numbers-apart index other prefix within one in absurd (omega arith))
          | inr past ↦
              (let end : other ≡ length numbers = omega arith in
              number-absent number none index prefix (sym (earlier index prefix) ∙ same ∙ ap (slice_index (numbers ++ number ∷ [])) end ∙ last))
        ]

    -- there are no more numbers than page numbers
    pub length-listed : length numbers < 2 ^ 20
    length-listed =
        let most : length (numbers ++ number ∷ []) ≤ 2 ^ 20 = length-le_from_distinct_below (numbers ++ number ∷ []) (2 ^ 20)
        (IsDistinct-from_apart eqb (numbers ++ number ∷ []) distinct) members-small in
        let more = size in omega arith
      where
        distinct : (index other other' : ℕ) → index < other → other < length (numbers ++ number ∷ []) →
            eqb (slice_index_or (numbers ++ number ∷ []) index other') (slice_index_or (numbers ++ number ∷ []) other other') ≡ false
        distinct index other other' before inside =
            let prefix : index < length (numbers ++ number ∷ []) = omega arith in
            rw (get_or_default_zero (numbers ++ number ∷ []) index other' prefix, get_or_default_zero (numbers ++ number ∷ []) other other' inside)
            (ne_eqb (slice_index (numbers ++ number ∷ []) index) (slice_index (numbers ++ number ∷ []) other) (apart-each index other before inside))

        members-small : (member : ℕ) → list_any (eqb member) (numbers ++ number ∷ []) ≡ true → member < 2 ^ 20
        members-small member there =
            let found = Any-from_list_any (eqb member) (numbers ++ number ∷ []) there in
            let same : member ≡ found.1 = eqb-true member found.1 found.4 in
            let at : slice_index (numbers ++ number ∷ []) found.0 ≡ found.1 = sym (get_or_default_zero (numbers ++ number ∷ []) found.0 found.1 found.2) ∙ found.3 in
            let small : slice_index (numbers ++ number ∷ []) found.0 < 2 ^ 20 = small-each found.0 in omega arith

    pub AreListed-pushed : (place' : ℕ → ℕ) → place' number ≡ length numbers + 1 → ((other : ℕ) → other ≢ number → place' other ≡ place other) →
        AreListed place' (numbers ++ number ∷ [])
    AreListed-pushed place' new kept = record {
      known = small-each;
      placed = (λ index inside. elim (cases_lt index (length numbers)) [
        | inl within ↦
            rw (earlier index within) (kept (slice_index numbers index) (number-absent number none index within) ∙ listed.placed index within)
        | inr past ↦ (let more = size in let end : index ≡ length numbers = omega arith in rw (end, last) new)
      ]);
      within = (λ other. let more = size in elim (cases_eq other number) [
        | inl here ↦ rw here (omega arith)
        | inr apart ↦ rw (kept other apart) (let within : place other ≤ length numbers = listed.within other in omega arith)
      ]);
      listed = (λ other some. elim (cases_eq other number) [
        | inl here ↦ (let end : place' other - 1 ≡ length numbers = (let at : place' other ≡ length numbers + 1 = rw here new in omega arith) in rw end (last ∙ sym here))
        | inr apart ↦
            (let same : place' other ≡ place other = kept other apart in
            let there : place other ≢ 0 = λ nothing. some (same ∙ nothing) in
            let within : place other ≤ length numbers = listed.within other in
            rw same (earlier (place other - 1) (omega arith) ∙ listed.listed other there))
      ]);
    }

-- the place of a number, by where it first stands
pub place_among-cons : (first : ℕ) (rest : List ℕ) (number : ℕ) → place_among (first ∷ rest) number ≡ cond (eqb first number) 1 (next_place (place_among rest number))
unfolding place_among
place_among-cons first rest number = refl

pub place_among-nothing : (number : ℕ) → place_among [] number ≡ 0
unfolding place_among
place_among-nothing number = refl

pub next_place-some : (place : ℕ) → 0 < place → next_place place ≡ place + 1
next_place-some zero some = absurd (omega arith)
next_place-some (suc place) some = omega arith

next_place-before : (place index : ℕ) → next_place place ≡ suc index + 1 → place ≡ index + 1
next_place-before zero index next = absurd (omega arith)
next_place-before (suc place) index next = omega arith

next_place-none : (place : ℕ) → next_place place ≡ 0 → place ≡ 0
next_place-none zero none = refl
next_place-none (suc place) none = absurd (omega arith)

-- one more number moves no other
pub place_among-other : (numbers : List ℕ) (number other : ℕ) → other ≢ number → place_among (numbers ++ number ∷ []) other ≡ place_among numbers other
place_among-other [] number other apart =
    place_among-cons number [] other ∙ rw (ne_eqb number other (λ same. apart (sym same)), place_among-nothing other) refl
place_among-other (first ∷ rest) number other apart =
    place_among-cons first (rest ++ number ∷ []) other
    ∙ rw (place_among-other rest number other apart) (sym (place_among-cons first rest other))

-- one more number stands at the end
pub place_among-pushed : (numbers : List ℕ) (number : ℕ) → place_among numbers number ≡ 0 → place_among (numbers ++ number ∷ []) number ≡ length numbers + 1
place_among-pushed [] number none = place_among-cons number [] number ∙ rw (eq-eqb number number refl) refl
place_among-pushed (first ∷ rest) number none = elim (cases_eq first number) [
  | inl here ↦
      (let one : place_among (first ∷ rest) number ≡ 1 = place_among-cons first rest number ∙ rw (eq-eqb first number here) refl in absurd (omega arith))
  | inr apart ↦
      (let next : place_among (first ∷ rest) number ≡ next_place (place_among rest number) = place_among-cons first rest number ∙ rw (ne_eqb first number apart) refl in
      let later : place_among (rest ++ number ∷ []) number ≡ length rest + 1 = place_among-pushed rest number (next_place-none (place_among rest number) (sym next ∙ none)) in
      let more : next_place (length rest + 1) ≡ length rest + 1 + 1 = next_place-some (length rest + 1) (omega arith) in
      place_among-cons first (rest ++ number ∷ []) number ∙ rw (ne_eqb first number apart, later) (more ∙ omega arith))
]

-- a number doesn't stand before its place
pub place_among-before : (numbers : List ℕ) (index number : ℕ) → place_among numbers number ≡ index + 1 → place_among (take index numbers) number ≡ 0
place_among-before numbers zero number there = place_among-nothing number
place_among-before [] (suc index) number there = place_among-nothing number
place_among-before (first ∷ rest) (suc index) number there = elim (cases_eq first number) [
  | inl here ↦
      (let one : place_among (first ∷ rest) number ≡ 1 = place_among-cons first rest number ∙ rw (eq-eqb first number here) refl in absurd (omega arith))
  | inr apart ↦
      (let next : next_place (place_among rest number) ≡ suc index + 1 =
      sym (place_among-cons first rest number ∙ rw (ne_eqb first number apart) refl) ∙ there in
      let later : place_among rest number ≡ index + 1 = next_place-before (place_among rest number) index next in
      place_among-cons first (take index rest) number ∙ rw (ne_eqb first number apart, place_among-before rest index number later) refl)
]
