use Rattle.std.proofs.Common.{◌≡◌, ◌≢◌, ℕ, zero, suc, ◌+◌, ◌%◌, ◌^◌, ◌≤◌, ◌==◌, Bool, true, false, cond, Option, Some, None, List, [], ◌∷◌, ◌++◌, length, refl, sym, ◌∙◌, ap, arith, inl, inr, eq-eqb}
use Rattle.std.specs.Prelude.{slice_index, unwrap_or, option_map}
use Rattle.std.proofs.lemmas.Bool.{cases_eq, cases_lt, ne_eqb}
use Rattle.std.proofs.Math.Path.{fun_ext}
use Rattle.guest_memory.specs.Memory.{Cell, Memory}
use Rattle.guest_memory.specs.Layout.{page_of}
use Rattle.paged_memory.specs.Page.{PageValue}
use Rattle.paged_memory.specs.PageMap.{PageMap, memory_of_pages, with_page}
use Rattle.commit.specs.Bytes.{differing_count, merged_bytes}
use Rattle.commit.specs.ByteMap.{byte_map}
use Rattle.commit.specs.Merge.{changed_byte, with_bytes, with_changes}
use Rattle.commit.specs.Patched.{PageChange, byte_of_change, patched, AreBelow}
use Rattle.commit.proofs.ByteMaps.{get-byte_map}
use Rattle.commit.proofs.Patching.{patched-none, patched-past, patched-here, patched-elsewhere}

-- a byte of merged bytes
pub slice_index-merged_bytes : (now copy mine : List ℕ) (index : ℕ) → length copy ≡ length now → length mine ≡ length now →
    slice_index (merged_bytes now copy mine) index ≡ unwrap_or (changed_byte (slice_index copy index) (slice_index mine index)) (slice_index now index)
unfolding merged_bytes
slice_index-merged_bytes [] [] [] index sizes sizes' = refl
slice_index-merged_bytes [] (c ∷ copy) mine index sizes sizes' = cc
slice_index-merged_bytes [] [] (m ∷ mine) index sizes sizes' = cc
slice_index-merged_bytes (n ∷ now) [] mine index sizes sizes' = cc
slice_index-merged_bytes (n ∷ now) (c ∷ copy) [] index sizes sizes' = cc
slice_index-merged_bytes (n ∷ now) (c ∷ copy) (m ∷ mine) zero sizes sizes' = either (c == m)
  where
    either : (equal : Bool) → cond equal n m ≡ unwrap_or (cond equal None (Some m)) n
    either true = refl
    either false = refl
slice_index-merged_bytes (n ∷ now) (c ∷ copy) (m ∷ mine) (suc index) sizes sizes' = slice_index-merged_bytes now copy mine index (omega arith) (omega arith)

-- bytes of which none was changed become mine
pub merged_bytes-unchanged : (now copy mine : List ℕ) → length copy ≡ length now → length mine ≡ length now → differing_count now copy ≡ 0 →
    merged_bytes now copy mine ≡ mine
unfolding merged_bytes differing_count
merged_bytes-unchanged [] [] [] sizes sizes' none = refl
merged_bytes-unchanged [] (c ∷ copy) mine sizes sizes' none = cc
merged_bytes-unchanged [] [] (m ∷ mine) sizes sizes' none = cc
merged_bytes-unchanged (n ∷ now) [] mine sizes sizes' none = cc
merged_bytes-unchanged (n ∷ now) (c ∷ copy) [] sizes sizes' none = cc
merged_bytes-unchanged (n ∷ now) (c ∷ copy) (m ∷ mine) sizes sizes' none =
    elim (cases_eq n c) [
      | inl same ↦
          (let left : 0 + differing_count now copy ≡ 0 = rw (eq-eqb n c same) at none in
          rw (merged_bytes-unchanged now copy mine (omega arith) (omega arith) (omega (arith, left))) (ap (λ byte. byte ∷ mine) (taken same)))
      | inr apart ↦ (let more : 1 + differing_count now copy ≡ 0 = rw (ne_eqb n c apart) at none in absurd (omega (arith, more)))
    ]
  where
    taken : n ≡ c → cond (c == m) n m ≡ m
    taken same =
        elim (cases_eq c m) [
          | inl equal ↦ rw (eq-eqb c m equal) (same ∙ equal)
          | inr other ↦ rw (ne_eqb c m other) refl
        ]

-- a cell with a byte that may have changed
abbrev pub changed_cell : Option ℕ → Cell → Cell
changed_cell byte cell = record { perm = cell.perm; byte = unwrap_or byte cell.byte }

unchanged : (cell : Option Cell) (byte : Option ℕ) → byte ≡ None → option_map (changed_cell byte) cell ≡ cell
unchanged None byte none = refl
unchanged (Some cell) byte none = rw none refl

-- the changes of a map made of a function, where no address past the last is mapped
pub with_changes-byte_map : (byte_at : ℕ → Option ℕ) (memory : Memory) → ((address : ℕ) → 2 ^ 32 ≤ address → memory address ≡ None) →
    with_changes (byte_map byte_at) memory ≡ with_bytes byte_at memory
unfolding with_bytes
with_changes-byte_map byte_at memory none = fun_ext (λ address.
    elim (cases_lt address (2 ^ 32)) [
      | inl inside ↦ ap (λ byte. option_map (changed_cell byte) (memory address)) (get-byte_map byte_at address inside)
      | inr past ↦ rw (none address past) refl
    ])

-- no changes
pub with_bytes-none : (memory : Memory) → with_bytes (patched []) memory ≡ memory
unfolding with_bytes
with_bytes-none memory = fun_ext (λ address. unchanged (memory address) (patched [] address) (patched-none address))

-- the changes of one page more
pub with_bytes-more : (patch : List PageChange) (change : PageChange) (memory : Memory) → AreBelow patch change.number →
    with_bytes (patched (change ∷ [])) (with_bytes (patched patch) memory) ≡ with_bytes (patched (patch ++ change ∷ [])) memory
unfolding with_bytes
with_bytes-more patch change memory below = fun_ext (λ address.
    elim (cases_eq change.number (page_of address)) [
      | inl here ↦
          rw (
            patched-past patch change.number address below (omega arith),
            patched-here patch change address below here,
            patched-here [] change address (λ place inside. absurd (omega arith)) here,
          )
          (once (memory address) (byte_of_change change address))
      | inr other ↦
          rw (patched-elsewhere patch change address other, patched-elsewhere [] change address other, patched-none address)
          (again (memory address) (patched patch address))
    ])
  where
    once : (cell : Option Cell) (byte : Option ℕ) → option_map (changed_cell byte) (option_map (changed_cell None) cell) ≡ option_map (changed_cell byte) cell
    once None byte = refl
    once (Some cell) byte = refl

    again : (cell : Option Cell) (byte : Option ℕ) → option_map (changed_cell None) (option_map (changed_cell byte) cell) ≡ option_map (changed_cell byte) cell
    again None byte = refl
    again (Some cell) byte = refl

-- the changes of one page alone, at an address of that page and at another
alone-here : (change : PageChange) (address : ℕ) → change.number ≡ page_of address → patched (change ∷ []) address ≡ byte_of_change change address
alone-here change address here = patched-here [] change address (λ place inside. absurd (omega arith)) here

alone-elsewhere : (change : PageChange) (address : ℕ) → change.number ≢ page_of address → patched (change ∷ []) address ≡ None
alone-elsewhere change address other = patched-elsewhere [] change address other ∙ patched-none address

module _ (pages : PageMap) (change : PageChange) where
  -- the memory of some pages of which one is merged, and of pages that don't have it
  pub memory-merged : (page : PageValue) → pages change.number ≡ Some page → length page.bytes ≡ 4096 → length change.copy ≡ 4096 → length change.mine ≡ 4096 →
      memory_of_pages (with_page change.number (λ _. Some (record { perm = page.perm; bytes = merged_bytes page.bytes change.copy change.mine })) pages)
      ≡ with_bytes (patched (change ∷ [])) (memory_of_pages pages)
  unfolding memory_of_pages with_page with_bytes
  memory-merged page mapped size size' size'' = fun_ext (λ address.
      elim (cases_eq change.number (page_of address)) [
        | inl here ↦
            (let found : pages (page_of address) ≡ Some page = ap pages (sym here) ∙ mapped in
            rw (eq-eqb change.number (page_of address) here, found, alone-here change address here)
            (ap (λ byte. Some (record { perm = page.perm; byte = byte }))
            (slice_index-merged_bytes page.bytes change.copy change.mine (address % 4096) (size' ∙ sym size) (size'' ∙ sym size))))
        | inr other ↦
            rw (ne_eqb change.number (page_of address) other)
            (sym (unchanged (memory_of_pages pages address) (patched (change ∷ []) address) (alone-elsewhere change address other)))
      ])

  pub memory-dropped : pages change.number ≡ None → with_bytes (patched (change ∷ [])) (memory_of_pages pages) ≡ memory_of_pages pages
  unfolding memory_of_pages with_bytes
  memory-dropped unmapped = fun_ext (λ address.
      elim (cases_eq change.number (page_of address)) [
        | inl here ↦ (let found : pages (page_of address) ≡ None = ap pages (sym here) ∙ unmapped in rw found refl)
        | inr other ↦ unchanged (memory_of_pages pages address) (patched (change ∷ []) address) (alone-elsewhere change address other)
      ])
