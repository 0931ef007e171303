use Rattle.std.proofs.Common.{◌≡◌, ℕ, zero, suc, ◌+◌, ◌*◌, ◌^◌, ◌<◌, ◌≤◌, ◌==◌, Bool, true, false, cond, Option, Some, None, List, [], ◌∷◌, ◌++◌, length, take, refl, sym, ◌∙◌, ap, arith, inl, inr, eq-eqb}
use Rattle.std.specs.Prelude.{slice_index, slice_index_or, is_some}
use Rattle.std.specs.List.Sorted.{IsStrictlyIncreasing}
use Rattle.std.proofs.lemmas.Bool.{cases_eq, cases_lt, ne_eqb}
use Rattle.std.proofs.lemmas.List.{map-append, take-map, get_or-take, get_or-map, get_or_append_left, get_or_push, length-append, length-map, length-take-le}
use Rattle.guest_memory.specs.Layout.{page_of}
use Rattle.commit.specs.Bytes.{differing_count}
use Rattle.commit.specs.Merge.{changed_byte}
use Rattle.commit.specs.ByteMap.{all_addresses}
use Rattle.commit.specs.Patched.{PageChange, byte_of_change, addresses_in, addresses_with, patched, AreBelow, numbers_of, AreCounted}
use Rattle.commit.proofs.Blocks.{length-differing_from}
use Rattle.commit.proofs.Counting.{passing, passing-none, length-passing-small}
use Rattle.commit.proofs.Patching.{is_patched, patched-none, patched-here, patched-elsewhere, addresses_with-more}

-- ascending numbers, not only neighbours
pub increasing-apart : (numbers : List ℕ) → IsStrictlyIncreasing numbers → (place later : ℕ) → place < later → later < length numbers →
    slice_index numbers place < slice_index numbers later
increasing-apart numbers ascending place zero before inside = absurd (omega arith)
increasing-apart numbers ascending place (suc later) before inside =
    let step : slice_index numbers later < slice_index numbers (later + 1) = ascending later (omega arith) in
    let e : later + 1 ≡ suc later = omega arith in
    let next : slice_index numbers later < slice_index numbers (suc later) = rw e at step in
    elim (cases_eq place later) [
      | inl same ↦ rw same next
      | inr other ↦ (let far : slice_index numbers place < slice_index numbers later = increasing-apart numbers ascending place later (omega arith) (omega arith) in omega arith)
    ]

-- the pages ahead of one have lower numbers
pub AreBelow-prefix : (patch : List PageChange) → IsStrictlyIncreasing (numbers_of patch) → (place : ℕ) → place < length patch →
    AreBelow (take place patch) (slice_index (numbers_of patch) place)
AreBelow-prefix patch ascending place inside earlier within =
    let size : length (take place patch) ≡ place = length-take-le place patch (omega arith) in
    let all : length (numbers_of patch) ≡ length patch = length-map patch (λ change. change.number) in
    let kept : slice_index (numbers_of (take place patch)) earlier ≡ slice_index (numbers_of patch) earlier =
    ap (λ numbers. slice_index numbers earlier) (sym (take-map (λ change. change.number) place patch)) ∙ get_or-take place (numbers_of patch) earlier 0 (omega arith) in
    rw kept (increasing-apart (numbers_of patch) ascending earlier place (omega arith) (omega arith))

pub AreBelow-item : (patch : List PageChange) (place : ℕ) (change : PageChange) → IsStrictlyIncreasing (numbers_of patch) → place < length patch →
    change ≡ slice_index_or patch place change → AreBelow (take place patch) change.number
AreBelow-item patch place change ascending inside is =
    let number : slice_index (numbers_of patch) place ≡ change.number = get_or-map (λ one. one.number) patch place change 0 inside ∙ ap (λ one. one.number) (sym is) in
    rw (← number) (AreBelow-prefix patch ascending place inside)

module _ (patch : List PageChange) (change : PageChange) where
  -- the numbers with one page more
  numbers-more : numbers_of (patch ++ change ∷ []) ≡ numbers_of patch ++ change.number ∷ []
  numbers-more = map-append (λ one. one.number) patch (change ∷ [])

  number-kept : (place : ℕ) → place < length patch → slice_index (numbers_of (patch ++ change ∷ [])) place ≡ slice_index (numbers_of patch) place
  number-kept place inside =
      let all : length (numbers_of patch) ≡ length patch = length-map patch (λ one. one.number) in
      rw numbers-more (get_or_append_left (numbers_of patch) (change.number ∷ []) 0 place (omega arith))

  number-last : (place : ℕ) → length patch ≡ place → slice_index (numbers_of (patch ++ change ∷ [])) place ≡ change.number
  number-last place last =
      let all : length (numbers_of patch) ≡ length patch = length-map patch (λ one. one.number) in
      rw numbers-more (get_or_push (numbers_of patch) change.number 0 place (omega arith))

  length-more : length (patch ++ change ∷ []) ≡ length patch + 1
  length-more = length-append patch (change ∷ [])

  pub AreBelow-more : AreBelow patch change.number → AreBelow (patch ++ change ∷ []) (change.number + 1)
  AreBelow-more below place inside =
      let size = length-more in
      elim (cases_lt place (length patch)) [
        | inl early ↦ (let kept = number-kept place early in let lower : slice_index (numbers_of patch) place < change.number = below place early in omega arith)
        | inr late ↦ (let last = number-last place (omega arith) in omega arith)
      ]

  pub IsStrictlyIncreasing-more : IsStrictlyIncreasing (numbers_of patch) → AreBelow patch change.number → IsStrictlyIncreasing (numbers_of (patch ++ change ∷ []))
  IsStrictlyIncreasing-more ascending below place inside =
      let size = length-more in
      let all : length (numbers_of patch) ≡ length patch = length-map patch (λ one. one.number) in
      let all' : length (numbers_of (patch ++ change ∷ [])) ≡ length (patch ++ change ∷ []) = length-map (patch ++ change ∷ []) (λ one. one.number) in
      let here = number-kept place (omega arith) in
      elim (cases_lt (place + 1) (length patch)) [
        | inl early ↦ (let next = number-kept (place + 1) early in let old : slice_index (numbers_of patch) place < slice_index (numbers_of patch) (place + 1) = ascending place (omega arith) in omega arith)
        | inr late ↦ (let last = number-last (place + 1) (omega arith) in let lower : slice_index (numbers_of patch) place < change.number = below place (omega arith) in omega arith)
      ]

  -- a sound patch with one page more
  pub AreCounted-more : (count : ℕ) → AreCounted patch count → AreBelow patch change.number → change.number < 2 ^ 20 →
      length change.copy ≡ 4096 → length change.mine ≡ 4096 → AreCounted (patch ++ change ∷ []) (count + differing_count change.copy change.mine)
  AreCounted-more count sound below small size size' =
      let more = addresses_with-more patch change below small size size' in
      let joined : length (addresses_with (patched (patch ++ change ∷ []))) ≡ length (addresses_with (patched patch)) + length (addresses_in change) =
      ap length more ∙ length-append (addresses_with (patched patch)) (addresses_in change) in
      let here = length-differing_from (4096 * change.number) change.copy change.mine in
      let old = sound.counted in
      record { ascending = IsStrictlyIncreasing-more sound.ascending below; counted = omega arith }

  -- what a patch with one page more has at an address
  pub patched-more : AreBelow patch change.number → (address : ℕ) →
      patched (patch ++ change ∷ []) address ≡ cond (change.number == page_of address) (byte_of_change change address) (patched patch address)
  patched-more below address =
      elim (cases_eq change.number (page_of address)) [
        | inl here ↦ rw (eq-eqb change.number (page_of address) here) (patched-here patch change address below here)
        | inr other ↦ rw (ne_eqb change.number (page_of address) other) (patched-elsewhere patch change address other)
      ]

-- the addresses of a patch without pages
pub addresses_with-none : addresses_with (patched []) ≡ []
unfolding all_addresses passing
addresses_with-none = passing-none (is_patched []) 0 (2 ^ 32) (λ address above below. ap is_some (patched-none address))

-- a patch without pages is sound
pub AreCounted-none : AreCounted [] 0
AreCounted-none = record { ascending = λ place inside. absurd (omega arith); counted = ap length (sym addresses_with-none) }

-- a patch has at most all addresses
pub length-addresses_with : (bytes : ℕ → Option ℕ) → length (addresses_with bytes) ≤ 2 ^ 32
unfolding all_addresses passing
length-addresses_with bytes = length-passing-small (λ address. is_some (bytes address)) 0 (2 ^ 32)

-- two lists whose bytes don't differ
pub changed_byte-none : (copy mine : List ℕ) → length copy ≡ length mine → differing_count copy mine ≡ 0 → (index : ℕ) →
    changed_byte (slice_index copy index) (slice_index mine index) ≡ None
unfolding differing_count
changed_byte-none [] [] sizes none index = refl
changed_byte-none [] (m ∷ mine) sizes none index = cc
changed_byte-none (c ∷ copy) [] sizes none index = cc
changed_byte-none (c ∷ copy) (m ∷ mine) sizes none zero = equal (c == m) none
  where
    equal : (same : Bool) → cond same 0 1 + differing_count copy mine ≡ 0 → cond same None (Some m) ≡ None
    equal true rest = refl
    equal false rest = absurd (omega arith)
changed_byte-none (c ∷ copy) (m ∷ mine) sizes none (suc index) = changed_byte-none copy mine (omega arith) (omega arith) index
