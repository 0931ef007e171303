use Rattle.std.proofs.Common.{◌≡◌, ◌≢◌, ℕ, ◌+◌, ◌<◌, ◌≤◌, ◌==◌, Option, Some, None, List, [], ◌∷◌, ◌++◌, length, take, refl, sym, ◌∙◌, ap, arith, inl, inr, eq-eqb}
use Rattle.std.specs.Global.{Box}
use Rattle.std.specs.Prelude.{slice_index, slice_index_or, MatchOption, position}
use Rattle.std.specs.List.{position_from}
use Rattle.std.proofs.lemmas.Bool.{cases_eq, ne_eqb}
use Rattle.std.proofs.lemmas.Iterator.Adapters.{position_from-zero}
use Rattle.std.proofs.lemmas.List.{take_more, length-take-le}
use Rattle.twins.specs.Listed.{AreListed, place_among, next_place}
use Rattle.twins.specs.PrivatePages.{numbers_of, place_with}
use Rattle.twins.specs.declared.place_table.PlaceTable.{PlaceTable}
use Rattle.twins.specs.declared.private_page.PrivatePage.{PrivatePage}
use Rattle.twins.proofs.Listed.{place_among-cons, place_among-nothing, place_among-other, place_among-pushed, place_among-before, next_place-some}
use Rattle.twins.proofs.PrivatePages.{number-read, numbers-length}

-- where the page of a number was found, and where it stands
record IsPlaceAmong (pages : List PrivatePage) (number first place : ℕ) : Type 0 where
  past : first ≤ place
  there : place_among (numbers_of pages) number + first ≡ place + 1

position-from : (pages : List PrivatePage) (number first : ℕ) →
    MatchOption (position_from (λ private. private.number == number) first pages) (place_among (numbers_of pages) number ≡ 0) (IsPlaceAmong pages number first)
position-from [] number first = place_among-nothing number
position-from (private ∷ rest) number first = elim (cases_eq private.number number) [
  | inl here ↦
      rw (eq-eqb private.number number here)
      (record { past = omega arith; there = (let one : place_among (numbers_of (private ∷ rest)) number ≡ 1 = place_among-cons private.number (numbers_of rest) number ∙ rw (eq-eqb private.number number here) refl in omega arith) })
  | inr apart ↦
      rw (ne_eqb private.number number apart)
      (later (position_from (λ private. private.number == number) (first + 1) rest) (position-from rest number (first + 1))
      (place_among-cons private.number (numbers_of rest) number ∙ rw (ne_eqb private.number number apart) refl))
]
  where
    later : (found : Option ℕ) → MatchOption found (place_among (numbers_of rest) number ≡ 0) (IsPlaceAmong rest number (first + 1)) →
        place_among (numbers_of (private ∷ rest)) number ≡ next_place (place_among (numbers_of rest) number) →
        MatchOption found (place_among (numbers_of (private ∷ rest)) number ≡ 0) (IsPlaceAmong (private ∷ rest) number first)
    later None none next = next ∙ ap next_place none
    later (Some place) found next =
        let past = found.past in
        let there = found.there in
        let more : next_place (place_among (numbers_of rest) number) ≡ place_among (numbers_of rest) number + 1 = next_place-some (place_among (numbers_of rest) number) (omega arith) in
        record { past = omega arith; there = omega arith }

-- the place of a page that was looked for by its number
pub place_among-position : (pages : List PrivatePage) (number : ℕ) (found : Option ℕ) → found ≡ position (λ private. private.number == number) pages →
    MatchOption found (place_among (numbers_of pages) number ≡ 0) (λ place. place_among (numbers_of pages) number ≡ place + 1)
place_among-position pages number found is =
    weaken found (rw (is, position_from-zero (λ (private : PrivatePage). private.number == number) pages) (position-from pages number 0))
  where
    weaken : (found : Option ℕ) → MatchOption found (place_among (numbers_of pages) number ≡ 0) (IsPlaceAmong pages number 0) →
        MatchOption found (place_among (numbers_of pages) number ≡ 0) (λ place. place_among (numbers_of pages) number ≡ place + 1)
    weaken None none = none
    weaken (Some place) found = let there = found.there in omega arith

-- a table of the places of the pages before an index, with the one at the index
pub table-more : (pages : List PrivatePage) (index : ℕ) (private : PrivatePage) (before after : ℕ → ℕ) → AreListed (place_among (numbers_of pages)) (numbers_of pages) →
    index < length pages → private ≡ slice_index_or pages index private → ((number : ℕ) → before number ≡ place_among (take index (numbers_of pages)) number) →
    after private.number ≡ index + 1 → ((other : ℕ) → other ≢ private.number → after other ≡ before other) →
    (number : ℕ) → after number ≡ place_among (take (index + 1) (numbers_of pages)) number
table-more pages index private before after listed inside at known new kept number =
    let numbers : List ℕ = numbers_of pages in
    let size : length numbers ≡ length pages = numbers-length pages in
    let within : index < length numbers = omega arith in
    let here : slice_index numbers index ≡ private.number = number-read pages index private inside at in
    let more : take (index + 1) numbers ≡ take index numbers ++ private.number ∷ [] =
    take_more numbers index 0 within ∙ ap (λ (last : ℕ). take index numbers ++ last ∷ []) here in
    let first : place_among (take index numbers) private.number ≡ 0 =
    place_among-before numbers index private.number (ap (place_among numbers) (sym here) ∙ listed.placed index within) in
    let count : length (take index numbers) ≡ index = length-take-le index numbers (omega arith) in
    let last : place_among (take index numbers ++ private.number ∷ []) private.number ≡ index + 1 =
    place_among-pushed (take index numbers) private.number first ∙ ap (λ count. count + 1) count in
    rw more (elim (cases_eq number private.number) [
      | inl same ↦ rw same (new ∙ sym last)
      | inr apart ↦ kept number apart ∙ known number ∙ sym (place_among-other (take index numbers) private.number number apart)
    ])

-- one more number, without a table
module _ (table : Option (Box PlaceTable)) (none : table ≡ None) (numbers : List ℕ) (number : ℕ) where
  pub place_with-pushed : (place : ℕ) → length numbers ≡ place → place_with table numbers number ≡ 0 → place_with table (numbers ++ number ∷ []) number ≡ place + 1
  place_with-pushed place size absent =
      let absent' : place_among numbers number ≡ 0 = rw none at absent in
      rw none (place_among-pushed numbers number absent' ∙ ap (λ count. count + 1) size)

  pub place_with-other : (other : ℕ) → other ≢ number → place_with table (numbers ++ number ∷ []) other ≡ place_with table numbers other
  place_with-other other apart = rw none (place_among-other numbers number other apart)
