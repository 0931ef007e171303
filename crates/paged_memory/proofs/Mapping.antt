use Rattle.std.proofs.Common.{◌≡◌, ◌≢◌, ℕ, ◌+◌, ◌-◌, ◌*◌, ◌/◌, ◌%◌, ◌^◌, ◌<◌, ◌⊎◌, cond, Option, Some, None, List, [], ◌∷◌, ◌++◌, length, refl, sym, ◌∙◌, ap, arith, inl, inr, take, length-set, length-append, length-take}
use Rattle.std.specs.Prelude.{slice_set, slice_index, slice_index_or, option_map}
use Rattle.std.proofs.lemmas.Bool.{cases_eq, cases_lt}
use Rattle.std.proofs.lemmas.List.{get_or-set_same, get_or-set_other, get_or_append_left, get_or_push, get_or_past, take_more}
use Rattle.std.proofs.Math.Path.{fun_ext}
use Rattle.guest_memory.specs.Memory.{Cell, Memory, with_number}
use Rattle.guest_memory.specs.Layout.{page_of}
use Rattle.guest_memory.specs.declared.perm.Perm.{Perm}
use Rattle.paged_memory.specs.Pages.{no_access, slot_of, place_of, cells_in, AreSound}
use Rattle.paged_memory.specs.Mapping.{is_among, with_cells, with_zeros, with_bytes}
use Rattle.paged_memory.proofs.Accesses.{cells_in-mapped, cells_in-unmapped, cells_in-written}
use Rattle.paged_memory.specs.Bytes.{with_low_bytes}
use Rattle.paged_memory.proofs.Among.{is_among-inside, is_among-outside, is_among-apart}

module _ (table : List ℕ) (perms : List Perm) (bytes : List ℕ) (sound : AreSound table perms bytes)
    (page : ℕ) (perm : Perm) (longer : List ℕ) (number : page < 2 ^ 20)
    (grown : length longer ≡ length bytes + 4096) (kept : (index : ℕ) → slice_index longer index ≡ slice_index bytes index) where
  some : 0 < length perms
  some = let within : slice_index table 0 < length perms = sound.within 0 in omega arith

  slot-new : slice_index (slice_set table page (length perms)) page ≡ length perms
  slot-new = let sizes : length table ≡ 2 ^ 20 = sound.numbers in get_or-set_same table page (length perms) 0 (omega arith)

  slot-kept : (other : ℕ) → other ≢ page → slice_index (slice_set table page (length perms)) other ≡ slice_index table other
  slot-kept other apart = get_or-set_other table page other (length perms) 0 apart

  perm-kept : (slot : ℕ) → slot < length perms → slice_index_or (perms ++ perm ∷ []) slot no_access ≡ slice_index_or perms slot no_access
  perm-kept slot within = get_or_append_left perms (perm ∷ []) no_access slot within

  within-mapped : (other : ℕ) → slice_index (slice_set table page (length perms)) other < length (perms ++ perm ∷ [])
  within-mapped other =
      let size : length (perms ++ perm ∷ []) ≡ length perms + 1 = length-append perms (perm ∷ []) in
      elim (cases_eq other page) [
        | inl same ↦ rw (same, slot-new, size) (omega arith)
        | inr apart ↦ rw (slot-kept other apart, size) (let within : slice_index table other < length perms = sound.within other in omega arith)
      ]

  distinct-mapped : (one other : ℕ) → slice_index (slice_set table page (length perms)) one ≢ 0 →
      slice_index (slice_set table page (length perms)) one ≡ slice_index (slice_set table page (length perms)) other → one ≡ other
  distinct-mapped one other mapped same = cases (cases_eq one page) (cases_eq other page)
    where
      below : (number : ℕ) → slice_index table number < length perms
      below = sound.within

      cases : (one ≡ page) ⊎ (one ≡ page → ⊥) → (other ≡ page) ⊎ (other ≡ page → ⊥) → one ≡ other
      cases (inl first) (inl second) = first ∙ sym second
      cases (inl first) (inr apart) =
          let e : length perms ≡ slice_index table other = sym slot-new ∙ (rw first at same) ∙ slot-kept other apart in
          let lower : slice_index table other < length perms = below other in absurd (omega arith)
      cases (inr apart) (inl second) =
          let e : slice_index table one ≡ length perms = sym (slot-kept one apart) ∙ (rw second at same) ∙ slot-new in
          let lower : slice_index table one < length perms = below one in absurd (omega arith)
      cases (inr apart) (inr apart') =
          sound.distinct one other (λ unmapped. mapped (slot-kept one apart ∙ unmapped)) (sym (slot-kept one apart) ∙ same ∙ slot-kept other apart')

  pub AreSound-mapped : AreSound (slice_set table page (length perms)) (perms ++ perm ∷ []) longer
  AreSound-mapped = record {
    numbers = length-set table page (length perms) ∙ sound.numbers;
    sizes = (let size : length (perms ++ perm ∷ []) ≡ length perms + 1 = length-append perms (perm ∷ []) in
        let sizes : length bytes ≡ 4096 * length perms = sound.sizes in omega arith);
    nothing = perm-kept 0 some ∙ sound.nothing;
    within = within-mapped;
    distinct = distinct-mapped;
  }

  pub cells_in-mapped_page : cells_in (slice_set table page (length perms)) (perms ++ perm ∷ []) longer ≡ with_zeros page 1 perm (cells_in table perms bytes)
  unfolding with_cells
  cells_in-mapped_page = fun_ext (λ x.
      elim (cases_eq (page_of x) page) [
        | inl same ↦
            (let slot : slot_of (slice_set table page (length perms)) x ≡ length perms = rw same slot-new in
            let perm-new : slice_index_or (perms ++ perm ∷ []) (length perms) no_access ≡ perm = get_or_push perms perm no_access (length perms) refl in
            let sizes : length bytes ≡ 4096 * length perms = sound.sizes in
            let byte-new : slice_index longer (4096 * length perms + x % 4096) ≡ 0 = kept (4096 * length perms + x % 4096) ∙ get_or_past bytes (4096 * length perms + x % 4096) 0 (omega arith) in
            rw (is_among-inside page 1 (page_of x) (omega arith) (omega arith), cells_in-mapped (slice_set table page (length perms)) (perms ++ perm ∷ []) longer x (rw slot (λ e. (let lower = some in absurd (omega arith)))), slot, perm-new, byte-new))
        | inr apart ↦
            rw (is_among-apart page 1 (page_of x) (λ above below. apart (omega arith)))
            (elim (cases_eq (slot_of table x) 0) [
              | inl unmapped ↦
                  cells_in-unmapped (slice_set table page (length perms)) (perms ++ perm ∷ []) longer x (slot-kept (page_of x) apart ∙ unmapped)
                  ∙ sym (cells_in-unmapped table perms bytes x unmapped)
              | inr mapped ↦
                  rw (cells_in-mapped (slice_set table page (length perms)) (perms ++ perm ∷ []) longer x (rw (slot-kept (page_of x) apart) mapped), cells_in-mapped table perms bytes x mapped, slot-kept (page_of x) apart, perm-kept (slot_of table x) (sound.within (page_of x)), kept (place_of table x))
            ])
      ])

-- the cells of one more page replaced, and of none
pub with_cells-more : (first count : ℕ) (cells : ℕ → Option Cell) (memory : Memory) →
    with_cells (first + count) 1 cells (with_cells first count cells memory) ≡ with_cells first (count + 1) cells memory
unfolding with_cells
with_cells-more first count cells memory = fun_ext (λ x.
    elim (cases_lt (page_of x) first) [
      | inl below ↦
          rw (is_among-outside (first + count) 1 (page_of x) (λ above. omega arith), is_among-outside first count (page_of x) (λ above. omega arith), is_among-outside first (count + 1) (page_of x) (λ above. omega arith))
      | inr above ↦ elim (cases_lt (page_of x) (first + count)) [
        | inl within ↦
            rw (is_among-outside (first + count) 1 (page_of x) (λ above. omega arith), is_among-inside first count (page_of x) above within, is_among-inside first (count + 1) (page_of x) above (omega arith))
        | inr past ↦ elim (cases_lt (page_of x) (first + count + 1)) [
          | inl last ↦ rw (is_among-inside (first + count) 1 (page_of x) past last, is_among-inside first (count + 1) (page_of x) above (omega arith))
          | inr beyond ↦
              rw (is_among-outside (first + count) 1 (page_of x) (λ above. beyond), is_among-outside first count (page_of x) (λ above. past), is_among-outside first (count + 1) (page_of x) (λ above. omega arith))
        ]
      ]
    ])

pub with_cells-none : (first : ℕ) (cells : ℕ → Option Cell) (memory : Memory) → with_cells first 0 cells memory ≡ memory
unfolding with_cells
with_cells-none first cells memory = fun_ext (λ x. rw (is_among-outside first 0 (page_of x) (λ above. omega arith)))

-- a write of one byte, as a number and as a list
pub with_number-one : (memory : Memory) (address value : ℕ) → value < 256 → with_number 1 memory address value ≡ with_bytes address (value ∷ []) memory
unfolding with_number with_bytes
with_number-one memory address value small = fun_ext (λ x.
    elim (cases_eq x address) [
      | inl here ↦ (let first : x - address ≡ 0 = omega arith in
          let whole : value / 1 % 256 ≡ value = omega arith in rw (first, whole))
      | inr apart ↦
          rw (is_among-apart address 1 x (λ above below. apart (omega arith)))
    ])

-- one more byte, and none
option_map-twice : (cell : Option Cell) (f g h : Cell → Cell) → ((c : Cell) → f (g c) ≡ h c) → option_map f (option_map g cell) ≡ option_map h cell
option_map-twice None f g h same = refl
option_map-twice (Some c) f g h same = ap Some (same c)

pub option_map-same : (cell : Option Cell) (f : Cell → Cell) → ((c : Cell) → f c ≡ c) → option_map f cell ≡ cell
option_map-same None f same = refl
option_map-same (Some c) f same = ap Some (same c)

-- what a cell becomes by a write of some bytes
abbrev pub written : ℕ → List ℕ → ℕ → Cell → Cell
written start bytes x cell = cond (is_among start (length bytes) x) (record { perm = cell.perm; byte = slice_index bytes (x - start) }) cell

written-more : (start count : ℕ) (bytes : List ℕ) (byte x : ℕ) (cell : Cell) → length bytes ≡ count →
    written (start + count) (byte ∷ []) x (written start bytes x cell) ≡ written start (bytes ++ byte ∷ []) x cell
written-more start count bytes byte x cell size =
    let longer : length (bytes ++ byte ∷ []) ≡ length bytes + 1 = length-append bytes (byte ∷ []) in
    elim (cases_lt x start) [
      | inl below ↦
          rw (is_among-outside (start + count) 1 x (λ above. omega arith), is_among-outside start (length bytes) x (λ above. omega arith), is_among-outside start (length (bytes ++ byte ∷ [])) x (λ above. omega arith))
      | inr above ↦ elim (cases_lt x (start + count)) [
        | inl within ↦
            rw (is_among-outside (start + count) 1 x (λ past. omega arith), is_among-inside start (length bytes) x above (omega arith), is_among-inside start (length (bytes ++ byte ∷ [])) x above (omega arith), get_or_append_left bytes (byte ∷ []) 0 (x - start) (omega arith))
        | inr past ↦ elim (cases_lt x (start + count + 1)) [
          | inl last ↦
              (let first : x - (start + count) ≡ 0 = omega arith in
              let after : x - start ≡ count = omega arith in
              rw (is_among-inside (start + count) 1 x past last, is_among-outside start (length bytes) x (λ above. omega arith), is_among-inside start (length (bytes ++ byte ∷ [])) x above (omega arith), first, after, get_or_push bytes byte 0 count size))
          | inr beyond ↦
              rw (is_among-outside (start + count) 1 x (λ above. beyond), is_among-outside start (length bytes) x (λ above. omega arith), is_among-outside start (length (bytes ++ byte ∷ [])) x (λ above. omega arith))
        ]
      ]
    ]

pub with_bytes-more : (start done : ℕ) (bytes : List ℕ) (memory : Memory) → done < length bytes →
    with_bytes (start + done) (slice_index bytes done ∷ []) (with_bytes start (take done bytes) memory) ≡ with_bytes start (take (done + 1) bytes) memory
unfolding with_bytes
with_bytes-more start done bytes memory within =
    let size : length (take done bytes) ≡ done = simp length-take (omega arith) in
    rw (take_more bytes done 0 within) (fun_ext (λ x.
    option_map-twice (memory x) (written (start + done) (slice_index bytes done ∷ []) x) (written start (take done bytes) x) (written start (take done bytes ++ slice_index bytes done ∷ []) x)
    (λ cell. written-more start done (take done bytes) (slice_index bytes done) x cell size)))

pub with_bytes-none : (start : ℕ) (memory : Memory) → with_bytes start [] memory ≡ memory
unfolding with_bytes
with_bytes-none start memory = fun_ext (λ x. option_map-same (memory x) (written start [] x) (λ cell. rw (is_among-outside start 0 x (λ above. omega arith))))

-- a write of a byte of a page is a write of it in the memory
pub cells_in-byte : (table : List ℕ) (perms : List Perm) (bytes : List ℕ) → AreSound table perms bytes → (address value : ℕ) → value < 256 →
    cells_in table perms (slice_set bytes (place_of table address) value) ≡ with_bytes address (value ∷ []) (cells_in table perms bytes)
unfolding with_low_bytes
cells_in-byte table perms bytes sound address value small =
    let whole : value % 256 ≡ value = omega arith in
    let written : cells_in table perms (slice_set bytes (place_of table address) (value % 256)) ≡ with_number 1 (cells_in table perms bytes) address value =
    cells_in-written table perms bytes sound 1 address value (omega arith) in
    (rw whole at written) ∙ with_number-one (cells_in table perms bytes) address value small

pub ruleset mapping = (cells_in-mapped, cells_in-unmapped, cells_in-mapped_page, cells_in-byte, with_cells-more, with_cells-none, with_bytes-more, with_bytes-none)
