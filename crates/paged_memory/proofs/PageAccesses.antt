use Rattle.std.proofs.Common.{◌≡◌, ◌≢◌, ℕ, zero, suc, ◌+◌, ◌-◌, ◌/◌, ◌%◌, ◌^◌, ◌<◌, ◌≤◌, Bool, true, cond, Option, Some, None, length, refl, sym, ◌∙◌, ap, arith, inl, inr, eq-eqb}
use Rattle.std.specs.Prelude.{Ok, Err, MatchOption, IsSome, slice_index, option_map}
use Rattle.std.specs.Option.{option_and_then}
use Rattle.std.proofs.lemmas.Bool.{cases_eq, cases_Bool, ne_eqb}
use Rattle.std.proofs.Math.Path.{fun_ext}
use Rattle.guest_memory.specs.Memory.{Cell, permitted, number_at, loaded, fetched, with_number, stored}
use Rattle.guest_memory.specs.Layout.{page_of}
use Rattle.guest_memory.specs.declared.perm.Perm.{Perm}
use Rattle.guest_memory.specs.declared.fault.AccessFault.TheVariants.{Denied}
use Rattle.paged_memory.specs.Bytes.{number_from}
use Rattle.paged_memory.specs.Number.{width_of}
use Rattle.paged_memory.specs.declared.number.Number.{Number}
use Rattle.paged_memory.specs.declared.number.Number.TheVariants.{Byte, Half, Word}
use Rattle.paged_memory.specs.Page.{PageValue}
use Rattle.paged_memory.specs.PageMap.{PageMap, memory_of_pages, with_page, with_number_in, with_number_at, permitted_page, IsWritable}
use Rattle.paged_memory.specs.Mapping.{is_among}
use Rattle.paged_memory.proofs.Among.{is_among-apart, is_among-same}
use Rattle.paged_memory.proofs.Accesses.{number_at-present, page-same, offset-same, slice_index-with_low_bytes, cell-written, loaded-misaligned, stored-misaligned}
use Rattle.paged_memory.proofs.Mapping.{option_map-same}

-- the cell of an address in a page
abbrev pub cell_in : ℕ → PageValue → Cell
cell_in address page = record { perm = page.perm; byte = slice_index page.bytes (address % 4096) }

-- a page that permits an access is there and permits it
granted-parts : (may : Perm → Bool) (found : Option PageValue) (page : PageValue) →
    option_and_then (λ other. cond (may other.perm) (Some other) None) found ≡ Some page → (found ≡ Some page) × (may page.perm ≡ true)
granted-parts may None page granted = cc
granted-parts may (Some other) page granted =
    elim (cases_Bool (may other.perm)) [
      | inl may-so ↦ (let same : Some other ≡ Some page = rw may-so at granted in
          let one : other ≡ page = cc in (same, (let e : may other.perm ≡ may page.perm = ap (λ p. may p.perm) one in sym e ∙ may-so)))
      | inr not-so ↦ (let none : ◌≡◌ {A = Option PageValue} None (Some page) = rw not-so at granted in cc)
    ]

refused-byte : (may : Perm → Bool) (found : Option PageValue) (address : ℕ) →
    option_and_then (λ page. cond (may page.perm) (Some page) None) found ≡ None →
    option_and_then (λ cell. cond (may cell.perm) (Some cell.byte) None) (option_map (cell_in address) found) ≡ None
refused-byte may None address refused = refl
refused-byte may (Some page) address refused =
    elim (cases_Bool (may page.perm)) [
      | inl may-so ↦ (let none : ◌≡◌ {A = Option PageValue} (Some page) None = rw may-so at refused in cc)
      | inr not-so ↦ rw not-so
    ]

module _ (may : Perm → Bool) (pages : PageMap) (address : ℕ) where
  -- all bytes of an access within one page are there, or none is
  pub number_at-granted_page : (count : ℕ) (page : PageValue) → permitted_page may pages address ≡ Some page → address % 4096 + count ≤ 4096 →
      number_at (permitted may (memory_of_pages pages)) count address ≡ Some (number_from page.bytes count (address % 4096))
  unfolding permitted_page memory_of_pages
  number_at-granted_page count page granted inside =
      let parts : (pages (page_of address) ≡ Some page) × (may page.perm ≡ true) = granted-parts may (pages (page_of address)) page granted in
      number_at-present (permitted may (memory_of_pages pages)) page.bytes count address (address % 4096)
      (λ k below.
      let same : page_of (address + k) ≡ page_of address = page-same address k (omega arith) in
      let offset : (address + k) % 4096 ≡ address % 4096 + k = offset-same address k (omega arith) in
      rw (same, parts.0, offset, parts.1))

  pub number_at-refused_page : (count : ℕ) → 0 < count → permitted_page may pages address ≡ None →
      number_at (permitted may (memory_of_pages pages)) count address ≡ None
  unfolding permitted_page memory_of_pages
  number_at-refused_page zero some refused = absurd (omega arith)
  number_at-refused_page (suc count) some refused = rw (refused-byte may (pages (page_of address)) address refused)

module _ (pages : PageMap) (address : ℕ) where
  pub loaded-page : (count : ℕ) (page : PageValue) → permitted_page (λ perm. perm.read) pages address ≡ Some page →
      address % count ≡ 0 → address % 4096 + count ≤ 4096 → loaded count (memory_of_pages pages) address ≡ Ok (number_from page.bytes count (address % 4096))
  unfolding loaded
  loaded-page count page granted aligned inside =
      rw (eq-eqb (address % count) 0 aligned, number_at-granted_page (λ perm. perm.read) pages address count page granted inside)

  pub loaded-no_page : (count : ℕ) → permitted_page (λ perm. perm.read) pages address ≡ None → 0 < count → address % count ≡ 0 →
      loaded count (memory_of_pages pages) address ≡ Err Denied
  unfolding loaded
  loaded-no_page count refused some aligned =
      rw (eq-eqb (address % count) 0 aligned, number_at-refused_page (λ perm. perm.read) pages address count some refused)

  pub fetched-page : (page : PageValue) → permitted_page (λ perm. perm.execute) pages address ≡ Some page → address % 4 ≡ 0 →
      fetched (memory_of_pages pages) address ≡ Some (number_from page.bytes 4 (address % 4096))
  unfolding fetched
  fetched-page page granted aligned = number_at-granted_page (λ perm. perm.execute) pages address 4 page granted (omega arith)

  pub fetched-no_page : permitted_page (λ perm. perm.execute) pages address ≡ None → fetched (memory_of_pages pages) address ≡ None
  unfolding fetched
  fetched-no_page refused = number_at-refused_page (λ perm. perm.execute) pages address 4 (omega arith) refused

  pub stored-no_page : (count number : ℕ) → permitted_page (λ perm. perm.write) pages address ≡ None → 0 < count → address % count ≡ 0 →
      stored count (memory_of_pages pages) address number ≡ Err Denied
  unfolding stored
  stored-no_page count number refused some aligned =
      rw (eq-eqb (address % count) 0 aligned, number_at-refused_page (λ perm. perm.write) pages address count some refused)

-- a page that permits stores is there
abbrev pub HasPage : Option PageValue → Type 0
HasPage found = (page : PageValue) × (found ≡ Some page) × (page.perm.write ≡ true) × (length page.bytes ≡ 4096)

writable-parts : (found : Option PageValue) →
    MatchOption (option_and_then (λ page. cond page.perm.write (Some page) None) found) ⊥ (λ page. length page.bytes ≡ 4096) → HasPage found
writable-parts None writable = absurd writable
writable-parts (Some page) writable =
    elim (cases_Bool page.perm.write) [
      | inl may-so ↦ (page, refl, may-so, (rw may-so at writable))
      | inr not-so ↦ absurd (rw not-so at writable)
    ]

-- the page of a number in the pages with one changed
pub with_page-same : (number other : ℕ) (made : Option PageValue → Option PageValue) (pages : PageMap) → other ≡ number →
    with_page number made pages other ≡ made (pages other)
unfolding with_page
with_page-same number other made pages same = rw (eq-eqb number other (sym same))

pub with_page-other : (number other : ℕ) (made : Option PageValue → Option PageValue) (pages : PageMap) → other ≢ number →
    with_page number made pages other ≡ pages other
unfolding with_page
with_page-other number other made pages apart = rw (ne_eqb number other (λ same. apart (sym same)))

-- a write within a page is a write in the memory
pub memory-written : (pages : PageMap) (page : PageValue) (count address number : ℕ) → pages (page_of address) ≡ Some page → length page.bytes ≡ 4096 →
    address % 4096 + count ≤ 4096 →
    memory_of_pages (with_number_at count address number pages) ≡ with_number count (memory_of_pages pages) address number
unfolding memory_of_pages with_number
memory-written pages page count address number there size inside = fun_ext (λ x.
    elim (cases_eq (page_of x) (page_of address)) [
      | inl same ↦
          (let test : is_among (address % 4096) count (x % 4096) ≡ is_among address count x =
          is_among-same (address % 4096) (x % 4096) address x count (λ above within. (omega arith, omega arith)) (λ above within. (omega arith, omega arith)) in
          let distance : x % 4096 - address % 4096 ≡ x - address = omega arith in
          let byte = slice_index-with_low_bytes count page.bytes (address % 4096) number (x % 4096) (omega arith) in
          rw (with_page-same (page_of address) (page_of x) (option_map (with_number_in count (address % 4096) number)) pages same, same, there, byte, test, distance)
          (ap Some (cell-written (is_among address count x) page.perm (number / 256 ^ (x - address) % 256) (slice_index page.bytes (x % 4096)))))
      | inr apart ↦
          rw (with_page-other (page_of address) (page_of x) (option_map (with_number_in count (address % 4096) number)) pages apart, is_among-apart address count x (λ above within. apart (omega arith)))
          (sym (option_map-same (option_map (cell_in x) (pages (page_of x))) (λ cell. cell) (λ cell. refl)))
    ])

-- a store that an address's page permits
stored-there : (pages : PageMap) (page : PageValue) (count address number : ℕ) → pages (page_of address) ≡ Some page → page.perm.write ≡ true →
    length page.bytes ≡ 4096 → address % count ≡ 0 → address % 4096 + count ≤ 4096 →
    stored count (memory_of_pages pages) address number ≡ Ok (memory_of_pages (with_number_at count address number pages))
unfolding stored permitted_page
stored-there pages page count address number there granted size aligned inside =
    let permitted-so : permitted_page (λ perm. perm.write) pages address ≡ Some page = rw (there, granted) in
    rw (eq-eqb (address % count) 0 aligned, number_at-granted_page (λ perm. perm.write) pages address count page permitted-so inside)
    (ap Ok (sym (memory-written pages page count address number there size inside)))

pub stored-page : (pages : PageMap) (count address number : ℕ) → IsWritable pages address → address % count ≡ 0 → address % 4096 + count ≤ 4096 →
    stored count (memory_of_pages pages) address number ≡ Ok (memory_of_pages (with_number_at count address number pages))
unfolding permitted_page
stored-page pages count address number writable aligned inside =
    let parts : HasPage (pages (page_of address)) = writable-parts (pages (page_of address)) writable in
    stored-there pages parts.0 count address number parts.1 parts.2 parts.3 aligned inside

-- such a page is mapped
mapped-there : (found : Option PageValue) (page : PageValue) → found ≡ Some page → IsSome found
mapped-there found page there = rw there refl

pub mapped-page : (pages : PageMap) (address : ℕ) → IsWritable pages address → IsSome (pages (page_of address))
unfolding permitted_page
mapped-page pages address writable =
    let parts : HasPage (pages (page_of address)) = writable-parts (pages (page_of address)) writable in
    mapped-there (pages (page_of address)) parts.0 parts.1

-- a number at a multiple of its width has all bytes in one page
pub inside-page : (number : Number) (address : ℕ) → address % width_of number ≡ 0 → address % 4096 + width_of number ≤ 4096
inside-page (Byte value) address aligned = omega arith
inside-page (Half value) address aligned = omega arith
inside-page (Word value) address aligned = omega arith

pub width-some : (number : Number) → 0 < width_of number
width-some (Byte value) = omega arith
width-some (Half value) = omega arith
width-some (Word value) = omega arith

pub ruleset page_accesses = (loaded-page, loaded-no_page, loaded-misaligned, fetched-page, fetched-no_page, stored-page, stored-no_page, stored-misaligned, mapped-page, inside-page, width-some)
