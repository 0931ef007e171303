use Rattle.std.proofs.Common.{◌≡◌, ◌≢◌, ℕ, zero, suc, ◌+◌, ◌-◌, ◌*◌, ◌/◌, ◌%◌, ◌^◌, ◌<◌, ◌≤◌, Bool, true, false, ◌&&◌, ◌==◌, nat_le, nat_lt, cond, ◌⊎◌, Option, Some, None, List, length, refl, sym, ◌∙◌, ap, subst, add-zero, arith, inl, inr, eq-eqb, length-set}
use Rattle.std.proofs.lemmas.Bool.{cases_eq, cases_lt, cases_order, ne_eqb, and_parts, leb-true, ltb-true, cases_Bool}
use Rattle.std.proofs.lemmas.List.{get_or-set_same, get_or-set_other, take_at}
use Rattle.std.proofs.Math.Nat.{div-div-eq-div-mul}
use Rattle.std.proofs.Math.Path.{fun_ext}
use Rattle.paged_memory.specs.Mapping.{is_among}
use Rattle.paged_memory.proofs.Among.{is_among-inside, is_among-outside, is_among-same}
use Rattle.paged_memory.specs.Bytes.{number_from, with_low_bytes}
use Rattle.std.specs.Prelude.{slice_set, Ok, Err, slice_index, slice_index_or}
use Rattle.guest_memory.specs.Memory.{Cell, Memory, permitted, number_at, loaded, fetched, with_number, stored}
use Rattle.guest_memory.specs.Layout.{page_of}
use Rattle.guest_memory.specs.declared.perm.Perm.{Perm}
use Rattle.guest_memory.specs.declared.fault.AccessFault.TheVariants.{Misaligned, Denied}
use Rattle.paged_memory.specs.Pages.{no_access, slot_of, place_of, perm_of, cells_in, AreSound}

-- where all bytes of a number are there, it is there
pub number_at-present : (get : ℕ → Option ℕ) (bytes : List ℕ) (count address index : ℕ) →
    ((k : ℕ) → k < count → get (address + k) ≡ Some (slice_index bytes (index + k))) →
    number_at get count address ≡ Some (number_from bytes count index)
number_at-present get bytes zero address index present = refl
number_at-present get bytes (suc count) address index present =
    let here : get address ≡ Some (slice_index bytes index) = (let at : get (address + 0) ≡ Some (slice_index bytes (index + 0)) = present 0 (omega arith) in simp add-zero at at) in
    let rest : number_at get count (address + 1) ≡ Some (number_from bytes count (index + 1)) =
    number_at-present get bytes count (address + 1) (index + 1)
    (λ k below. let at : get (address + (1 + k)) ≡ Some (slice_index bytes (index + (1 + k))) = present (1 + k) (omega arith) in
    let e : address + 1 + k ≡ address + (1 + k) = omega arith in
    let f : index + 1 + k ≡ index + (1 + k) = omega arith in rw (e, f) at) in
    rw (here, rest)

-- addresses of one page
pub page-same : (address k : ℕ) → address % 4096 + k < 4096 → page_of (address + k) ≡ page_of address
page-same address k inside = omega arith

pub offset-same : (address k : ℕ) → address % 4096 + k < 4096 → (address + k) % 4096 ≡ address % 4096 + k
offset-same address k inside = omega arith

module _ (table : List ℕ) (perms : List Perm) (bytes : List ℕ) where
  -- what stands at an address whose page number has a page, and at one whose page number has none
  pub cells_in-mapped : (address : ℕ) → slot_of table address ≢ 0 →
      cells_in table perms bytes address ≡ Some (record { perm = perm_of table perms address; byte = slice_index bytes (place_of table address) })
  unfolding cells_in
  cells_in-mapped address mapped = rw (ne_eqb (slot_of table address) 0 mapped)

  pub cells_in-unmapped : (address : ℕ) → slot_of table address ≡ 0 → cells_in table perms bytes address ≡ None
  unfolding cells_in
  cells_in-unmapped address unmapped = rw (eq-eqb (slot_of table address) 0 unmapped)

module _ (table : List ℕ) (perms : List Perm) (bytes : List ℕ) (sound : AreSound table perms bytes) where
  -- what permits something is a page
  slot_of-granted : (may : Perm → Bool) (address : ℕ) → may no_access ≡ false → may (perm_of table perms address) ≡ true → slot_of table address ≢ 0
  slot_of-granted may address none granted unmapped =
      let e : perm_of table perms address ≡ no_access = ap (λ slot. slice_index_or perms slot no_access) unmapped ∙ sound.nothing in
      let f : may (perm_of table perms address) ≡ may no_access = ap may e in cc

  granted-at : (may : Perm → Bool) (address k : ℕ) → may no_access ≡ false → address % 4096 + k < 4096 →
      may (perm_of table perms address) ≡ true →
      permitted may (cells_in table perms bytes) (address + k) ≡ Some (slice_index bytes (place_of table address + k))
  granted-at may address k none inside granted =
      let same : page_of (address + k) ≡ page_of address = page-same address k inside in
      let offset : (address + k) % 4096 ≡ address % 4096 + k = offset-same address k inside in
      let mapped : slot_of table (address + k) ≢ 0 = rw same (slot_of-granted may address none granted) in
      let place : 4096 * slot_of table address + (address % 4096 + k) ≡ 4096 * slot_of table address + address % 4096 + k = omega arith in
      rw (cells_in-mapped table perms bytes (address + k) mapped, same, offset, place, granted)

  refused-at : (may : Perm → Bool) (address : ℕ) → may (perm_of table perms address) ≡ false →
      permitted may (cells_in table perms bytes) address ≡ None
  refused-at may address refused =
      elim (cases_eq (slot_of table address) 0) [
        | inl unmapped ↦ rw (cells_in-unmapped table perms bytes address unmapped)
        | inr mapped ↦ rw (cells_in-mapped table perms bytes address mapped, refused)
      ]

  -- all bytes of an access within one page are there, or none is
  pub number_at-granted : (may : Perm → Bool) (count address : ℕ) → may no_access ≡ false → address % 4096 + count ≤ 4096 →
      may (perm_of table perms address) ≡ true →
      number_at (permitted may (cells_in table perms bytes)) count address ≡ Some (number_from bytes count (place_of table address))
  number_at-granted may count address none inside granted =
      number_at-present (permitted may (cells_in table perms bytes)) bytes count address (place_of table address)
      (λ k below. granted-at may address k none (omega arith) granted)

  pub number_at-refused : (may : Perm → Bool) (count address : ℕ) → 0 < count → may (perm_of table perms address) ≡ false →
      number_at (permitted may (cells_in table perms bytes)) count address ≡ None
  number_at-refused may zero address some refused = absurd (omega arith)
  number_at-refused may (suc count) address some refused = rw (refused-at may address refused)

  pub loaded-granted : (count address : ℕ) → address % count ≡ 0 → address % 4096 + count ≤ 4096 → (perm_of table perms address).read ≡ true →
      loaded count (cells_in table perms bytes) address ≡ Ok (number_from bytes count (place_of table address))
  unfolding loaded
  loaded-granted count address aligned inside granted =
      rw (eq-eqb (address % count) 0 aligned, number_at-granted (λ perm. perm.read) count address refl inside granted)

  pub loaded-refused : (count address : ℕ) → 0 < count → address % count ≡ 0 → (perm_of table perms address).read ≡ false →
      loaded count (cells_in table perms bytes) address ≡ Err Denied
  unfolding loaded
  loaded-refused count address some aligned refused =
      rw (eq-eqb (address % count) 0 aligned, number_at-refused (λ perm. perm.read) count address some refused)

  pub fetched-granted : (address : ℕ) → address % 4 ≡ 0 → (perm_of table perms address).execute ≡ true →
      fetched (cells_in table perms bytes) address ≡ Some (number_from bytes 4 (place_of table address))
  unfolding fetched
  fetched-granted address aligned granted = number_at-granted (λ perm. perm.execute) 4 address refl (omega arith) granted

  pub fetched-refused : (address : ℕ) → (perm_of table perms address).execute ≡ false → fetched (cells_in table perms bytes) address ≡ None
  unfolding fetched
  fetched-refused address refused = number_at-refused (λ perm. perm.execute) 4 address (omega arith) refused

  pub stored-refused : (count address number : ℕ) → 0 < count → address % count ≡ 0 → (perm_of table perms address).write ≡ false →
      stored count (cells_in table perms bytes) address number ≡ Err Denied
  unfolding stored
  stored-refused count address number some aligned refused =
      rw (eq-eqb (address % count) 0 aligned, number_at-refused (λ perm. perm.write) count address some refused)

-- an access whose address isn't aligned
pub loaded-misaligned : (count : ℕ) (memory : Memory) (address : ℕ) → address % count ≢ 0 → loaded count memory address ≡ Err Misaligned
unfolding loaded
loaded-misaligned count memory address misaligned = rw (ne_eqb (address % count) 0 misaligned)

pub stored-misaligned : (count : ℕ) (memory : Memory) (address number : ℕ) → address % count ≢ 0 → stored count memory address number ≡ Err Misaligned
unfolding stored
stored-misaligned count memory address number misaligned = rw (ne_eqb (address % count) 0 misaligned)

-- what the bytes have after a write
pub length-with_low_bytes : (count : ℕ) (bytes : List ℕ) (index number : ℕ) → length (with_low_bytes count bytes index number) ≡ length bytes
unfolding with_low_bytes
length-with_low_bytes zero bytes index number = refl
length-with_low_bytes (suc count) bytes index number =
    length-with_low_bytes count (slice_set bytes index (number % 256)) (index + 1) (number / 256) ∙ length-set bytes index (number % 256)

-- byte k of a number's 256th part is its byte k + 1
byte-later : (number k j : ℕ) → j ≡ suc k → number / 256 / 256 ^ k % 256 ≡ number / 256 ^ j % 256
byte-later number k j e = rw (e, div-div-eq-div-mul number 256 (256 ^ k)) (ap (λ d. number / d % 256) (let f : 256 * 256 ^ k ≡ 256 ^ suc k = grind arith in f))

byte-first : (number k : ℕ) → k ≡ 0 → number / 256 ^ k % 256 ≡ number % 256
byte-first number k e = rw e (grind arith)

pub slice_index-with_low_bytes : (count : ℕ) (bytes : List ℕ) (index number place : ℕ) → index + count ≤ length bytes →
    slice_index (with_low_bytes count bytes index number) place
    ≡ cond (is_among index count place) (number / 256 ^ (place - index) % 256) (slice_index bytes place)
unfolding with_low_bytes
slice_index-with_low_bytes zero bytes index number place inside =
    rw (is_among-outside index 0 place (λ above. omega arith))
slice_index-with_low_bytes (suc count) bytes index number place inside =
    let size : length (slice_set bytes index (number % 256)) ≡ length bytes = length-set bytes index (number % 256) in
    let later = slice_index-with_low_bytes count (slice_set bytes index (number % 256)) (index + 1) (number / 256) place (omega arith) in
    later ∙ written (cases_order place index)
  where
    written : (place ≡ index) ⊎ ((place < index) ⊎ (index < place)) →
        cond (is_among (index + 1) count place) (number / 256 / 256 ^ (place - (index + 1)) % 256) (slice_index (slice_set bytes index (number % 256)) place)
        ≡ cond (is_among index (suc count) place) (number / 256 ^ (place - index) % 256) (slice_index bytes place)
    written (inl here) =
        rw (is_among-outside (index + 1) count place (λ above. omega arith), is_among-inside index (suc count) place (omega arith) (omega arith), byte-first number (place - index) (omega arith), here)
        (get_or-set_same bytes index (number % 256) 0 (omega arith))
    written (inr (inl below)) =
        rw (is_among-outside (index + 1) count place (λ above. omega arith), is_among-outside index (suc count) place (λ above. omega arith))
        (get_or-set_other bytes index place (number % 256) 0 (omega arith))
    written (inr (inr above)) =
        elim (cases_lt place (index + suc count)) [
          | inl within ↦
              rw (is_among-inside (index + 1) count place (omega arith) (omega arith), is_among-inside index (suc count) place (omega arith) within)
              (byte-later number (place - (index + 1)) (place - index) (omega arith))
          | inr past ↦
              rw (is_among-outside (index + 1) count place (λ above. omega arith), is_among-outside index (suc count) place (λ above. past))
              (get_or-set_other bytes index place (number % 256) 0 (omega arith))
        ]

-- Addresses whose pages have their own places: one lies among those of an access within one page exactly where
-- its byte lies among those of the access.
same-page : (page offset count page' offset' : ℕ) → offset + count ≤ 4096 → offset' < 4096 →
    4096 * page + offset ≤ 4096 * page' + offset' → 4096 * page' + offset' < 4096 * page + offset + count → page ≡ page'
same-page page offset count page' offset' inside small above within = omega arith

module _ (slot page slot' page' offset count offset' : ℕ) (inside : offset + count ≤ 4096) (small : offset' < 4096)
    (there : page ≡ page' → slot ≡ slot') (back : slot ≡ slot' → page ≡ page') where
  places-same : is_among (4096 * page + offset) count (4096 * page' + offset') ≡ is_among (4096 * slot + offset) count (4096 * slot' + offset')
  places-same =
      is_among-same (4096 * page + offset) (4096 * page' + offset') (4096 * slot + offset) (4096 * slot' + offset') count
      (λ above within. let e : slot ≡ slot' = there (same-page page offset count page' offset' inside small above within) in
      let f : page ≡ page' = same-page page offset count page' offset' inside small above within in (omega arith, omega arith))
      (λ above within. let e : slot ≡ slot' = same-page slot offset count slot' offset' inside small above within in
      let f : page ≡ page' = back e in (omega arith, omega arith))

  distance-same : is_among (4096 * page + offset) count (4096 * page' + offset') ≡ true →
      4096 * page' + offset' - (4096 * page + offset) ≡ 4096 * slot' + offset' - (4096 * slot + offset)
  distance-same test =
      let parts : (nat_le (4096 * page + offset) (4096 * page' + offset') ≡ true) × (nat_lt (4096 * page' + offset') (4096 * page + offset + count) ≡ true) =
      and_parts (nat_le (4096 * page + offset) (4096 * page' + offset')) (nat_lt (4096 * page' + offset') (4096 * page + offset + count)) test in
      let f : page ≡ page' = same-page page offset count page' offset' inside small (leb-true _ _ parts.0) (ltb-true _ _ parts.1) in
      let e : slot ≡ slot' = there f in omega arith

-- the cell of a byte, or the one that a write makes of it
pub cell-written : (test : Bool) (perm : Perm) (new old : ℕ) →
    ◌≡◌ {A = Cell} (record { perm = perm; byte = cond test new old }) (cond test (record { perm = perm; byte = new }) (record { perm = perm; byte = old }))
cell-written true perm new old = refl
cell-written false perm new old = refl

module _ (table : List ℕ) (perms : List Perm) (bytes : List ℕ) (sound : AreSound table perms bytes) where
  -- the bytes of an access within one page are there
  place_of-inside : (count address : ℕ) → address % 4096 + count ≤ 4096 → place_of table address + count ≤ length bytes
  place_of-inside count address inside =
      let within : slot_of table address < length perms = sound.within (page_of address) in
      let sizes : length bytes ≡ 4096 * length perms = sound.sizes in omega arith

  byte-written : (count address number x : ℕ) → slot_of table x ≢ 0 → address % 4096 + count ≤ 4096 →
      slice_index (with_low_bytes count bytes (place_of table address) number) (place_of table x)
      ≡ cond (is_among address count x) (number / 256 ^ (x - address) % 256) (slice_index bytes (place_of table x))
  byte-written count address number x mapped inside =
      let whole : 4096 * page_of address + address % 4096 ≡ address = omega arith in
      let whole' : 4096 * page_of x + x % 4096 ≡ x = omega arith in
      let there : page_of address ≡ page_of x → slot_of table address ≡ slot_of table x = ap (slice_index table) in
      let back : slot_of table address ≡ slot_of table x → page_of address ≡ page_of x = λ e. sym (sound.distinct (page_of x) (page_of address) mapped (sym e)) in
      let test : is_among address count x ≡ is_among (place_of table address) count (place_of table x) =
      rw (whole, whole') at (places-same (slot_of table address) (page_of address) (slot_of table x) (page_of x) (address % 4096) count (x % 4096) inside (omega arith) there back) in
      let distance : is_among address count x ≡ true → x - address ≡ place_of table x - place_of table address =
      rw (whole, whole') at (distance-same (slot_of table address) (page_of address) (slot_of table x) (page_of x) (address % 4096) count (x % 4096) inside (omega arith) there back) in
      slice_index-with_low_bytes count bytes (place_of table address) number (place_of table x) (place_of-inside count address inside)
      ∙ elim (cases_Bool (is_among address count x)) [
        | inl among ↦ rw (← test, among, distance among)
        | inr apart ↦ rw (← test, apart)
      ]

  -- a write of the bytes of one page is a write in the memory
  pub cells_in-written : (count address number : ℕ) → address % 4096 + count ≤ 4096 →
      cells_in table perms (with_low_bytes count bytes (place_of table address) number) ≡ with_number count (cells_in table perms bytes) address number
  unfolding with_number
  cells_in-written count address number inside = fun_ext (λ x.
      elim (cases_eq (slot_of table x) 0) [
        | inl unmapped ↦ rw (cells_in-unmapped table perms bytes x unmapped) (cells_in-unmapped table perms (with_low_bytes count bytes (place_of table address) number) x unmapped)
        | inr there ↦
            rw (cells_in-mapped table perms bytes x there, cells_in-mapped table perms (with_low_bytes count bytes (place_of table address) number) x there, byte-written count address number x there inside)
            (ap Some (cell-written (is_among address count x) (perm_of table perms x) (number / 256 ^ (x - address) % 256) (slice_index bytes (place_of table x))))
      ])

  pub stored-granted : (count address number : ℕ) → address % count ≡ 0 → address % 4096 + count ≤ 4096 → (perm_of table perms address).write ≡ true →
      stored count (cells_in table perms bytes) address number ≡ Ok (cells_in table perms (with_low_bytes count bytes (place_of table address) number))
  unfolding stored
  stored-granted count address number aligned inside granted =
      rw (eq-eqb (address % count) 0 aligned, number_at-granted table perms bytes sound (λ perm. perm.write) count address refl inside granted)
      (ap Ok (sym (cells_in-written count address number inside)))

pub ruleset accesses = (loaded-granted, loaded-refused, loaded-misaligned, fetched-granted, fetched-refused, stored-granted, stored-refused, stored-misaligned, length-with_low_bytes, take_at)
