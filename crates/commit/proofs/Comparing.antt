use Rattle.std.proofs.Common.{◌≡◌, ◌≢◌, ℕ, zero, suc, ◌+◌, ◌%◌, ◌<◌, ◌≤◌, ◌==◌, cond, ◌⊎◌, Option, Some, None, List, [], length, refl, sym, ◌∙◌, ap, arith, inl, inr, eq-eqb}
use Rattle.std.specs.Prelude.{slice_index, Contains}
use Rattle.std.specs.List.Sorted.{IsStrictlyIncreasing}
use Rattle.std.proofs.lemmas.Bool.{cases_eq, cases_lt, ne_eqb}
use Rattle.std.proofs.lemmas.List.{get_or_default}
use Rattle.std.proofs.Math.Path.{fun_ext}
use Rattle.guest_memory.specs.Layout.{page_of}
use Rattle.guest_memory.specs.Memory.{Memory}
use Rattle.paged_memory.specs.Page.{PageValue}
use Rattle.paged_memory.specs.PageMap.{PageMap, memory_of_pages}
use Rattle.commit.specs.ByteMap.{byte_map}
use Rattle.commit.specs.Merge.{changed_byte, change_at, changes}
use Rattle.commit.specs.Patched.{PageChange, patched, AreBelow, numbers_of}
use Rattle.commit.proofs.Growing.{increasing-apart}
use Rattle.commit.proofs.Patching.{patched-none, patched-past}

module _ (base view : PageMap) where
  -- what differs at an address of a page that both map, and of one that one of them doesn't map
  pub change_at-mapped : (address : ℕ) (copy mine : PageValue) → base (page_of address) ≡ Some copy → view (page_of address) ≡ Some mine →
      change_at (memory_of_pages base) (memory_of_pages view) address ≡ changed_byte (slice_index copy.bytes (address % 4096)) (slice_index mine.bytes (address % 4096))
  unfolding change_at memory_of_pages
  change_at-mapped address copy mine found found' = rw (found, found') refl

  pub change_at-unmapped : (address : ℕ) → (base (page_of address) ≡ None) ⊎ (view (page_of address) ≡ None) →
      change_at (memory_of_pages base) (memory_of_pages view) address ≡ None
  unfolding change_at memory_of_pages
  change_at-unmapped address (inl unmapped) = rw unmapped refl
  change_at-unmapped address (inr unmapped) = rw unmapped (either (base (page_of address)))
    where
      either : (page : Option PageValue) →
          change_at (memory_of_pages (λ _. page)) (memory_of_pages (λ _. None)) address ≡ None
      either None = refl
      either (Some page) = refl

  pub change_at-same : (address : ℕ) → view (page_of address) ≡ base (page_of address) → change_at (memory_of_pages base) (memory_of_pages view) address ≡ None
  unfolding change_at memory_of_pages
  change_at-same address same = rw same (either (base (page_of address)))
    where
      either : (page : Option PageValue) → change_at (memory_of_pages (λ _. page)) (memory_of_pages (λ _. page)) address ≡ None
      either None = refl
      either (Some page) = rw (eq-eqb (slice_index page.bytes (address % 4096)) (slice_index page.bytes (address % 4096)) refl) refl

-- what a patch of pages below has at an address where a page of some bytes is looked at, none of which differs
pub patched-same : (patch : List PageChange) (number : ℕ) (bytes : ℕ → Option ℕ) → AreBelow patch number →
    ((address : ℕ) → number ≡ page_of address → bytes address ≡ None) →
    (address : ℕ) → patched patch address ≡ cond (number == page_of address) (bytes address) (patched patch address)
patched-same patch number bytes below none address =
    elim (cases_eq number (page_of address)) [
      | inl here ↦ rw (eq-eqb number (page_of address) here, none address here) (patched-past patch number address below (omega arith))
      | inr other ↦ rw (ne_eqb number (page_of address) other) refl
    ]

-- bytes of one page for others that are the same there
pub bytes-for : (number : ℕ) (bytes others rest : ℕ → Option ℕ) → ((address : ℕ) → number ≡ page_of address → bytes address ≡ others address) →
    (address : ℕ) → cond (number == page_of address) (bytes address) (rest address) ≡ cond (number == page_of address) (others address) (rest address)
bytes-for number bytes others rest same address =
    elim (cases_eq number (page_of address)) [
      | inl here ↦ rw (eq-eqb number (page_of address) here) (same address here)
      | inr other ↦ rw (ne_eqb number (page_of address) other) refl
    ]

-- whether a number stands at one of the first places
among : (numbers : List ℕ) (number count : ℕ) →
    ((place : ℕ) × (place < count) × (slice_index numbers place ≡ number)) ⊎ ((place : ℕ) → place < count → slice_index numbers place ≢ number)
among numbers number zero = inr (λ place before. absurd (omega arith))
among numbers number (suc count) =
    elim (cases_eq (slice_index numbers count) number) [
      | inl here ↦ inl (count, omega arith, here)
      | inr other ↦ elim (among numbers number count) [
        | inl found ↦ inl (found.0, (let before = found.1 in omega arith), found.2)
        | inr none ↦ inr (λ place before there. elim (cases_lt place count) [
          | inl early ↦ none place early there
          | inr late ↦ (let e : count ≡ place = omega arith in other (ap (slice_index numbers) e ∙ there))
        ])
      ]
    ]

-- A patch is what two memories differ in on the first of some pages, and has only these.
pub record Compares (base view : PageMap) (dirty : List ℕ) (patch : List PageChange) (done : ℕ) : Type 0 where
  pub below : (later : ℕ) → done ≤ later → later < length dirty → AreBelow patch (slice_index dirty later)
  pub same : (address place : ℕ) → place < done → slice_index dirty place ≡ page_of address →
      patched patch address ≡ change_at (memory_of_pages base) (memory_of_pages view) address
  pub none : (address : ℕ) → ((place : ℕ) → place < done → slice_index dirty place ≢ page_of address) → patched patch address ≡ None

module _ (base view : PageMap) (dirty : List ℕ) where
  pub Compares-start : Compares base view dirty [] 0
  Compares-start = record {
    below = λ later first inside place within. absurd (omega arith);
    same = λ address place before there. absurd (omega arith);
    none = λ address others. patched-none address;
  }

  -- the next page is compared
  pub Compares-more : (patch new : List PageChange) (done : ℕ) → Compares base view dirty patch done → IsStrictlyIncreasing dirty → done < length dirty →
      ((address : ℕ) → patched new address
      ≡ cond (slice_index dirty done == page_of address) (change_at (memory_of_pages base) (memory_of_pages view) address) (patched patch address)) →
      AreBelow new (slice_index dirty done + 1) → Compares base view dirty new (done + 1)
  Compares-more patch new done before ascending inside compared lower = record {
    below = λ later first within place known.
        (let least : slice_index (numbers_of new) place < slice_index dirty done + 1 = lower place known in
        let apart : slice_index dirty done < slice_index dirty later = increasing-apart dirty ascending done later (omega arith) within in omega arith);
    same = λ address place early there. elim (cases_lt place done) [
      | inl known ↦
          (let apart : slice_index dirty place < slice_index dirty done = increasing-apart dirty ascending place done known inside in
          let other : slice_index dirty done ≢ page_of address = (λ e. absurd (omega arith)) in
          elsewhere address other ∙ before.same address place known there)
      | inr last ↦
          (let e : done ≡ place = omega arith in
          let here : slice_index dirty done ≡ page_of address = ap (slice_index dirty) e ∙ there in
          rw (compared address, eq-eqb (slice_index dirty done) (page_of address) here) refl)
    ];
    none = λ address others.
        elsewhere address (others done (omega arith)) ∙ before.none address (λ place early there. others place (omega arith) there);
  }
    where
      elsewhere : (address : ℕ) → slice_index dirty done ≢ page_of address → patched new address ≡ patched patch address
      elsewhere address other = rw (compared address, ne_eqb (slice_index dirty done) (page_of address) other) refl

  -- all pages, where the two have the same page of each other number
  pub Compares-all : (patch : List PageChange) → Compares base view dirty patch (length dirty) →
      ((number : ℕ) → ((place : ℕ) → place < length dirty → slice_index dirty place ≢ number) → view number ≡ base number) →
      patched patch ≡ change_at (memory_of_pages base) (memory_of_pages view)
  Compares-all patch all others = fun_ext (λ address.
      elim (among dirty (page_of address) (length dirty)) [
        | inl found ↦ all.same address found.0 found.1 found.2
        | inr none ↦ all.none address none ∙ sym (change_at-same base view address (others (page_of address) none))
      ])

-- the map of what two memories differ in is their changes
pub changes-are : (copy mine : Memory) (byte_at : ℕ → Option ℕ) → byte_at ≡ change_at copy mine → byte_map byte_at ≡ changes copy mine
unfolding changes
changes-are copy mine byte_at same = ap byte_map same

-- a number that a list contains stands at a place of it
pub stands : (numbers : List ℕ) (number : ℕ) → Contains numbers number → (place : ℕ) × (place < length numbers) × (slice_index numbers place ≡ number)
stands numbers number (place, inside, there) = (place, inside, get_or_default numbers place 0 number inside ∙ there)
