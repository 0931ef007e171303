use Rattle.std.proofs.Common.{◌≡◌, ◌≢◌, ℕ, zero, suc, ◌+◌, ◌-◌, ◌^◌, ◌<◌, ◌≤◌, ◌==◌, cond, Option, Some, None, IsSome, List, [], ◌∷◌, ◌++◌, length, eqb, refl, sym, ◌∙◌, ap, arith, inl, inr, eq-eqb, length-append}
use Rattle.std.specs.Prelude.{slice_index, slice_index_or, slice_set}
use Rattle.std.specs.Option.{option_or}
use Rattle.std.proofs.lemmas.Bool.{cases_eq, ne_eqb}
use Rattle.std.proofs.lemmas.List.{get_or-set_same, get_or-set_other, get_or_push, get_or-map, map-append, length-map, length-set}
use Rattle.std.proofs.Math.Seq.{map-set_same}
use Rattle.std.proofs.Math.Path.{fun_ext}
use Rattle.std.specs.Prelude.{All, Contains, IsPermutation, IsSorted, ◌↔◌}
use Rattle.std.specs.Ordering.{nat_cmp}
use Rattle.std.specs.List.Sorted.{IsStrictlyIncreasing}
use Rattle.std.proofs.lemmas.Grind.{get_or_default_zero}
use Rattle.std.proofs.lemmas.List.Sorted.{Contains-permutation, IsPermutation-sym, IsNonDecreasingBy-from_sort}
use Rattle.std.proofs.lemmas.Map.Keys.{IsStrictlyIncreasing-from_distinct, IsDistinct-IsPermutation}
use Rattle.paged_memory.specs.Page.{PageValue}
use Rattle.paged_memory.specs.PageMap.{with_page}
use Rattle.twins.specs.declared.private_page.PrivatePage.{PrivatePage}
use Rattle.twins.specs.Listed.{AreListed}
use Rattle.twins.specs.PrivatePages.{numbers_of, private_at, StandsAt, AddsPage}
use Rattle.twins.proofs.Listed.{number-absent, numbers-apart, length-listed, IsDistinct-listed, AreListed-none, AreListed-same, AreListed-pushed}

private_at-cons : (private : PrivatePage) (pages : List PrivatePage) (number : ℕ) →
    private_at (private ∷ pages) number ≡ cond (private.number == number) (Some private.page.value) (private_at pages number)
unfolding private_at
private_at-cons private pages number = elim (cases_eq private.number number) [
  | inl here ↦ rw (eq-eqb private.number number here)
  | inr apart ↦ rw (ne_eqb private.number number apart)
]

private_at-nothing : (number : ℕ) → private_at [] number ≡ None
unfolding private_at
private_at-nothing number = refl

-- a number that stands nowhere has no private page
private_at-absent : (pages : List PrivatePage) (number : ℕ) →
    ((index : ℕ) → index < length pages → slice_index (numbers_of pages) index ≢ number) → private_at pages number ≡ None
unfolding private_at
private_at-absent [] number absent = refl
private_at-absent (private ∷ pages) number absent =
    let apart : private.number ≢ number = absent 0 (omega arith) in
    private_at-cons private pages number
    ∙ rw (ne_eqb private.number number apart) (private_at-absent pages number (λ index inside. absent (suc index) (omega arith)))

-- the first page with a number is its private page
private_at-first : (pages : List PrivatePage) (index : ℕ) (other : PrivatePage) (number : ℕ) → index < length pages →
    (slice_index_or pages index other).number ≡ number →
    ((earlier : ℕ) → earlier < index → slice_index (numbers_of pages) earlier ≢ number) →
    private_at pages number ≡ Some (slice_index_or pages index other).page.value
private_at-first [] index other number inside here absent = absurd (omega arith)
private_at-first (private ∷ pages) zero other number inside here absent = private_at-cons private pages number ∙ rw (eq-eqb private.number number here)
private_at-first (private ∷ pages) (suc index) other number inside here absent =
    let apart : private.number ≢ number = absent 0 (omega arith) in
    private_at-cons private pages number
    ∙ rw (ne_eqb private.number number apart)
    (private_at-first pages index other number (omega arith) here (λ earlier before. absent (suc earlier) (omega arith)))

-- a number that stands somewhere has a private page
pub private_at-present : (pages : List PrivatePage) (index number : ℕ) → index < length pages → slice_index (numbers_of pages) index ≡ number →
    IsSome (private_at pages number)
private_at-present [] index number inside here = absurd (omega arith)
private_at-present (private ∷ pages) zero number inside here = rw (private_at-cons private pages number, eq-eqb private.number number here) refl
private_at-present (private ∷ pages) (suc index) number inside here =
    rw (private_at-cons private pages number)
    (elim (cases_eq private.number number) [
      | inl first ↦ rw (eq-eqb private.number number first) refl
      | inr apart ↦ rw (ne_eqb private.number number apart) (private_at-present pages index number (omega arith) here)
    ])

option_or-none : (page : Option PageValue) → option_or page None ≡ page
option_or-none None = refl
option_or-none (Some page) = refl

private_at-append : (pages : List PrivatePage) (new : PrivatePage) (number : ℕ) →
    private_at (pages ++ new ∷ []) number ≡ option_or (private_at pages number) (cond (new.number == number) (Some new.page.value) None)
private_at-append [] new number = private_at-cons new [] number ∙ rw private_at-nothing
private_at-append (private ∷ pages) new number =
    private_at-cons private (pages ++ new ∷ []) number
    ∙ rw (private_at-cons private pages number, private_at-append pages new number)
    (elim (cases_eq private.number number) [
      | inl here ↦ rw (eq-eqb private.number number here)
      | inr apart ↦ rw (ne_eqb private.number number apart)
    ])

-- the number of a page that stands in the list
number-at : (pages : List PrivatePage) (index : ℕ) (other : PrivatePage) → index < length pages →
    slice_index (numbers_of pages) index ≡ (slice_index_or pages index other).number
number-at pages index other inside = get_or-map (λ private. private.number) pages index other 0 inside

pub numbers-length : (pages : List PrivatePage) → length (numbers_of pages) ≡ length pages
numbers-length pages = length-map pages (λ private. private.number)

module _ (place : ℕ → ℕ) (pages : List PrivatePage) (listed : AreListed place (numbers_of pages)) where
  -- the private page of a number is the one at its place
  pub private_at-none : (number : ℕ) → place number ≡ 0 → private_at pages number ≡ None
  private_at-none number none =
      private_at-absent pages number
      (λ index inside. let size : length (numbers_of pages) ≡ length pages = numbers-length pages in
      number-absent place (numbers_of pages) listed number none index (omega arith))

  pub place-inside : (number index : ℕ) → place number ≡ index + 1 → index < length pages
  place-inside number index some =
      let within : place number ≤ length (numbers_of pages) = listed.within number in
      let size : length (numbers_of pages) ≡ length pages = numbers-length pages in omega arith

  pub number-placed : (number index : ℕ) → place number ≡ index + 1 → slice_index (numbers_of pages) index ≡ number
  number-placed number index some =
      let before : place number - 1 ≡ index = omega arith in
      let there : place number ≢ 0 = λ none. absurd (omega arith) in
      rw before at (listed.listed number there)

  pub private_at-stands : (number index : ℕ) (other : PrivatePage) → index < length pages → slice_index (numbers_of pages) index ≡ number →
      private_at pages number ≡ Some (slice_index_or pages index other).page.value
  private_at-stands number index other inside here =
      private_at-first pages index other number inside (sym (number-at pages index other inside) ∙ here)
      (λ earlier before same. let size : length (numbers_of pages) ≡ length pages = numbers-length pages in
      let both : earlier ≡ index = numbers-apart place (numbers_of pages) listed earlier index (omega arith) (omega arith) (same ∙ sym here) in absurd (omega arith))

  pub private_at-some : (number index : ℕ) (other : PrivatePage) → place number ≡ index + 1 →
      private_at pages number ≡ Some (slice_index_or pages index other).page.value
  private_at-some number index other some =
      private_at-stands number index other (place-inside number index some) (number-placed number index some)

  -- a page is replaced by one of its number
  module _ (index : ℕ) (new : PrivatePage) (inside : index < length pages) (same : slice_index (numbers_of pages) index ≡ new.number) where
    pub numbers_of-set : numbers_of (slice_set pages index new) ≡ numbers_of pages
    numbers_of-set = map-set_same (λ private. private.number) pages index new new (sym same ∙ number-at pages index new inside)

    pub AreListed-set : AreListed place (numbers_of (slice_set pages index new))
    AreListed-set = rw numbers_of-set listed

-- what stands where after a page was replaced
module _ (place : ℕ → ℕ) (pages : List PrivatePage) (listed : AreListed place (numbers_of pages))
    (index : ℕ) (new : PrivatePage) (inside : index < length pages) (same : slice_index (numbers_of pages) index ≡ new.number) where
  after : AreListed place (numbers_of (slice_set pages index new))
  after = AreListed-set place pages listed index new inside same

  pub private_at-set : (number : ℕ) → private_at (slice_set pages index new) number ≡ cond (new.number == number) (Some new.page.value) (private_at pages number)
  private_at-set number = elim (cases_eq number new.number) [
    | inl here ↦
        rw (eq-eqb new.number number (sym here))
        (private_at-stands place (slice_set pages index new) after number index new (rw (length-set pages index new) inside) (rw (numbers_of-set place pages listed index new inside same) (same ∙ sym here))
        ∙ ap (λ private. Some private.page.value) (get_or-set_same pages index new new inside))
    | inr apart ↦
        rw (ne_eqb new.number number (λ same. apart (sym same)))
        (elim (cases_eq (place number) 0) [
          | inl none ↦ private_at-none place (slice_set pages index new) after number none ∙ sym (private_at-none place pages listed number none)
          | inr some ↦
              (let at : place number ≡ place number - 1 + 1 = omega arith in
              let there : slice_index (numbers_of pages) (place number - 1) ≡ number = number-placed place pages listed number (place number - 1) at in
              let else-where : place number - 1 ≢ index = λ e. apart (sym there ∙ ap (slice_index (numbers_of pages)) e ∙ same) in
              private_at-some place (slice_set pages index new) after number (place number - 1) new at
              ∙ ap (λ private. Some private.page.value) (get_or-set_other pages index (place number - 1) new new else-where)
              ∙ sym (private_at-some place pages listed number (place number - 1) new at))
        ])
  ]

-- one more private page
module _ (place : ℕ → ℕ) (pages : List PrivatePage) (listed : AreListed place (numbers_of pages))
    (new : PrivatePage) (small : new.number < 2 ^ 20) (none : place new.number ≡ 0) where
  numbers_of-push : numbers_of (pages ++ new ∷ []) ≡ numbers_of pages ++ new.number ∷ []
  numbers_of-push = map-append (λ private. private.number) pages (new ∷ [])

  pub length-private : length pages < 2 ^ 20
  length-private =
      let most : length (numbers_of pages) < 2 ^ 20 = length-listed place (numbers_of pages) listed new.number small none in
      let size : length (numbers_of pages) ≡ length pages = numbers-length pages in omega arith

  pub AreListed-push : (places : List ℕ → ℕ → ℕ) → places (numbers_of pages ++ new.number ∷ []) new.number ≡ length pages + 1 →
      ((other : ℕ) → other ≢ new.number → places (numbers_of pages ++ new.number ∷ []) other ≡ place other) →
      AreListed (places (numbers_of (pages ++ new ∷ []))) (numbers_of (pages ++ new ∷ []))
  AreListed-push places there kept = rw numbers_of-push
      (AreListed-pushed place (numbers_of pages) listed new.number small none (places (numbers_of pages ++ new.number ∷ []))
      (there ∙ ap (λ size. size + 1) (sym (numbers-length pages))) kept)

  pub private_at-push : (number : ℕ) → private_at (pages ++ new ∷ []) number ≡ cond (new.number == number) (Some new.page.value) (private_at pages number)
  private_at-push number = private_at-append pages new number ∙ elim (cases_eq number new.number) [
    | inl here ↦ rw (private_at-none place pages listed number (ap place here ∙ none), eq-eqb new.number number (sym here))
    | inr apart ↦ rw (ne_eqb new.number number (λ same. apart (sym same))) (option_or-none (private_at pages number))
  ]

-- the number of a page that was read from the list
pub number-read : (pages : List PrivatePage) (index : ℕ) (old : PrivatePage) → index < length pages → old ≡ slice_index_or pages index old →
    slice_index (numbers_of pages) index ≡ old.number
number-read pages index old inside at = number-at pages index old inside ∙ sym (ap (λ private. private.number) at)

-- a page that was read from the list is the private page of its number, and stands where it was read
pub StandsAt-read : (pages : List PrivatePage) (index number : ℕ) (private : PrivatePage) → index < length pages → private ≡ slice_index_or pages index private →
    private.number ≡ number → StandsAt pages number index
StandsAt-read pages index number private inside at same =
    let here : slice_index (numbers_of pages) index ≡ number = number-read pages index private inside at ∙ same in
    record { inside = inside; number_there = here; present = private_at-present pages index number inside here }

pub private_at-read : (place : ℕ → ℕ) (pages : List PrivatePage) → AreListed place (numbers_of pages) → (index number : ℕ) (private : PrivatePage) →
    index < length pages → private ≡ slice_index_or pages index private → private.number ≡ number → private_at pages number ≡ Some private.page.value
private_at-read place pages listed index number private inside at same =
    private_at-stands place pages listed number index private inside (number-read pages index private inside at ∙ same) ∙ ap (λ it. Some it.page.value) (sym at)

-- a page is replaced by what is made of it
module _ (place : ℕ → ℕ) (pages : List PrivatePage) (listed : AreListed place (numbers_of pages))
    (index : ℕ) (old new : PrivatePage) (inside : index < length pages) (at : old ≡ slice_index_or pages index old) (same : old.number ≡ new.number) where
  pub numbers_of-changed : numbers_of (slice_set pages index new) ≡ numbers_of pages
  numbers_of-changed = numbers_of-set place pages listed index new inside (number-read pages index old inside at ∙ same)

  pub private_at-changed : (made : Option PageValue → Option PageValue) → made (Some old.page.value) ≡ Some new.page.value →
      private_at (slice_set pages index new) ≡ with_page (slice_index (numbers_of pages) index) made (private_at pages)
  unfolding with_page
  private_at-changed made makes = fun_ext (λ number.
      let here : slice_index (numbers_of pages) index ≡ new.number = number-read pages index old inside at ∙ same in
      private_at-set place pages listed index new inside here number
      ∙ rw here (elim (cases_eq number new.number) [
        | inl there ↦
            rw (eq-eqb new.number number (sym there))
            (sym makes ∙ ap (λ private. made (Some private.page.value)) at ∙ ap made (sym (private_at-stands place pages listed number index old inside (here ∙ sym there))))
        | inr apart ↦ rw (ne_eqb new.number number (λ same. apart (sym same)))
      ]))

pub AreListed-changed : (places : List ℕ → ℕ → ℕ) (pages : List PrivatePage) → AreListed (places (numbers_of pages)) (numbers_of pages) →
    (index : ℕ) (old new : PrivatePage) → index < length pages → old ≡ slice_index_or pages index old → old.number ≡ new.number →
    AreListed (places (numbers_of (slice_set pages index new))) (numbers_of (slice_set pages index new))
AreListed-changed places pages listed index old new inside at same = rw (numbers_of-changed (places (numbers_of pages)) pages listed index old new inside at same) listed

-- a page is added
module _ (place : ℕ → ℕ) (pages : List PrivatePage) (listed : AreListed place (numbers_of pages))
    (new : PrivatePage) (small : new.number < 2 ^ 20) (none : place new.number ≡ 0) where
  pub AddsPage-push : AddsPage pages (pages ++ new ∷ []) (length pages) new.number new.page.value
  unfolding with_page
  AddsPage-push = record {
    numbers = numbers_of-push place pages listed new small none;
    pages = fun_ext (private_at-push place pages listed new small none);
    stands = record {
      inside = (let size : length (pages ++ new ∷ []) ≡ length pages + 1 = length-append pages (new ∷ []) in omega arith);
      present = private_at-present (pages ++ new ∷ []) (length pages) new.number
          (let size : length (pages ++ new ∷ []) ≡ length pages + 1 = length-append pages (new ∷ []) in omega arith)
          (let size : length (numbers_of pages) ≡ length pages = numbers-length pages in
          rw (numbers_of-push place pages listed new small none) (get_or_push (numbers_of pages) new.number 0 (length pages) size));
      number_there = (let size : length (numbers_of pages) ≡ length pages = numbers-length pages in
          rw (numbers_of-push place pages listed new small none) (get_or_push (numbers_of pages) new.number 0 (length pages) size));
    };
  }

-- a number without a private page has no place
pub place-none : (place : ℕ → ℕ) (pages : List PrivatePage) → AreListed place (numbers_of pages) → (number : ℕ) → private_at pages number ≡ None → place number ≡ 0
place-none place pages listed number none = elim (cases_eq (place number) 0) [
  | inl nothing ↦ nothing
  | inr some ↦
      (let at : place number ≡ place number - 1 + 1 = omega arith in
      let inside : place number - 1 < length pages = place-inside place pages listed number (place number - 1) at in
      let here : slice_index (numbers_of pages) (place number - 1) ≡ number = number-placed place pages listed number (place number - 1) at in
      let there : IsSome (private_at pages number) = private_at-present pages (place number - 1) number inside here in
      absurd (let found : IsSome {T = PageValue} None = rw none at there in cc))
]

-- what the place of a number says
module _ (place : ℕ → ℕ) (pages : List PrivatePage) (listed : AreListed place (numbers_of pages)) where
  pub StandsAt-some : (number index : ℕ) → place number ≡ index + 1 → StandsAt pages number index
  StandsAt-some number index some =
      let inside : index < length pages = place-inside place pages listed number index some in
      let here : slice_index (numbers_of pages) index ≡ number = number-placed place pages listed number index some in
      record { inside = inside; number_there = here; present = private_at-present pages index number inside here }

  -- each page that is listed is the private page of its number
  pub each-private : All (λ private. private_at pages private.number ≡ Some private.page.value) pages
  each-private index other inside =
      private_at-stands place pages listed (slice_index_or pages index other).number index other inside (number-at pages index other inside)

  -- which numbers are listed
  pub listed-private : (number : ℕ) → Contains (numbers_of pages) number → IsSome (private_at pages number)
  listed-private number found =
      let size : length (numbers_of pages) ≡ length pages = numbers-length pages in
      private_at-present pages found.0 number (omega arith) (sym (get_or_default_zero (numbers_of pages) found.0 number found.1) ∙ found.2)

  pub private-listed : (number : ℕ) → IsSome (private_at pages number) → Contains (numbers_of pages) number
  private-listed number there = elim (cases_eq (place number) 0) [
    | inl none ↦ (let nothing : private_at pages number ≡ None = private_at-none place pages listed number none in absurd (let found : IsSome {T = PageValue} None = rw nothing at there in cc))
    | inr some ↦
        (let at : place number ≡ place number - 1 + 1 = omega arith in
        let inside : place number - 1 < length pages = place-inside place pages listed number (place number - 1) at in
        let size : length (numbers_of pages) ≡ length pages = numbers-length pages in
        let within : place number - 1 < length (numbers_of pages) = omega arith in
        (place number - 1, within, get_or_default_zero (numbers_of pages) (place number - 1) number within ∙ number-placed place pages listed number (place number - 1) at))
  ]

  flips : (one other : ℕ) → eqb one other ≡ eqb other one
  flips one other = elim (cases_eq one other) [
    | inl same ↦ rw (eq-eqb one other same, eq-eqb other one (sym same))
    | inr apart ↦ rw (ne_eqb one other apart, ne_eqb other one (λ same. apart (sym same)))
  ]

  -- the numbers in order
  module _ (sorted : List ℕ) (permutation : IsPermutation (numbers_of pages) sorted) where
    pub ascending : IsSorted nat_cmp sorted → IsStrictlyIncreasing sorted
    ascending order =
        IsStrictlyIncreasing-from_distinct sorted (IsNonDecreasingBy-from_sort (λ number. number) sorted order)
        (IsDistinct-IsPermutation eqb flips (numbers_of pages) sorted permutation (IsDistinct-listed place (numbers_of pages) listed))

    pub exact : (number : ℕ) → Contains sorted number ↔ IsSome (private_at pages number)
    exact number = (
      (λ found. listed-private number (Contains-permutation sorted (numbers_of pages) number (IsPermutation-sym (numbers_of pages) sorted permutation) found)),
      (λ there. Contains-permutation (numbers_of pages) sorted number permutation (private-listed number there)),
    )

pub ruleset private_pages = (private_at-none, private_at-some, StandsAt-some, AreListed-none, AreListed-same)
