use Rattle.std.proofs.Common.{◌≡◌, ℕ, zero, suc, ◌+◌, ◌-◌, ◌<◌, ◌≤◌, true, false, nat_le, cond, Option, Some, None, List, [], ◌∷◌, length, take, refl, ap, arith, inl, inr}
use Rattle.std.specs.Prelude.{slice_index_or, option_map, find}
use Rattle.std.specs.Option.{option_or}
use Rattle.std.proofs.lemmas.Bool.{cases_lt, cases_Bool, and_parts, and_from, and_left, and_right, leb-true, le-leb, lt-leb}
use Rattle.std.proofs.lemmas.List.{get_or_past, take_more}
use Rattle.std.proofs.lemmas.List.Folds.{find-append}
use Rattle.std.proofs.Math.Path.{fun_ext}
use Rattle.guest_memory.specs.Memory.{Memory}
use Rattle.guest_memory.specs.Layout.{page_of}
use Rattle.elf32_reader.specs.LoadSegment.{LoadSegment, IsLoadable, first_page, last_page, page_count, covers, cell_at}
use Rattle.elf32_reader.specs.LoadImage.{LoadImage, AreOrdered, memory_of}
use Rattle.paged_memory.specs.Mapping.{is_among, with_cells, with_zeros, with_bytes, with_segment, memory_of_segments}
use Rattle.paged_memory.proofs.Among.{is_among-inside, is_among-outside, is_among-apart}
use Rattle.paged_memory.proofs.Mapping.{option_map-same, written}

-- whether a page is one of a segment's
covers-inside : (x : ℕ) (segment : LoadSegment) → first_page segment ≤ page_of x → page_of x ≤ last_page segment → covers x segment ≡ true
covers-inside x segment above below = and_from (nat_le (first_page segment) (page_of x)) (nat_le (page_of x) (last_page segment)) (le-leb _ _ above) (le-leb _ _ below)

covers-outside : (x : ℕ) (segment : LoadSegment) → (first_page segment ≤ page_of x → last_page segment < page_of x) → covers x segment ≡ false
covers-outside x segment outside =
    elim (cases_lt (page_of x) (first_page segment)) [
      | inl below ↦ and_left (nat_le (first_page segment) (page_of x)) (nat_le (page_of x) (last_page segment)) (lt-leb _ _ below)
      | inr above ↦ and_right (nat_le (first_page segment) (page_of x)) (nat_le (page_of x) (last_page segment)) (lt-leb _ _ (outside above))
    ]

module _ (segment : LoadSegment) (memory : Memory) (loadable : IsLoadable segment) where
  -- outside of a segment's pages nothing of it is written
  untouched : (x : ℕ) → (first_page segment ≤ page_of x → last_page segment < page_of x) → is_among segment.vaddr (length segment.bytes) x ≡ false
  untouched x outside =
      let some : 0 < segment.memsz = loadable.not_empty in
      let sizes : length segment.bytes ≤ segment.memsz = loadable.sizes in
      is_among-apart segment.vaddr (length segment.bytes) x (λ above below. (let past : last_page segment < page_of x = outside (omega arith) in absurd (omega arith)))

  -- the cell of an address of a segment's pages, once its bytes are written
  written-segment : (x : ℕ) → written segment.vaddr segment.bytes x (record { perm = segment.perm; byte = 0 }) ≡ cell_at x segment
  written-segment x =
      elim (cases_lt x segment.vaddr) [
        | inl below ↦ rw (is_among-outside segment.vaddr (length segment.bytes) x (λ above. absurd (omega arith)), lt-leb segment.vaddr x below)
        | inr above ↦ elim (cases_lt x (segment.vaddr + length segment.bytes)) [
          | inl within ↦ rw (is_among-inside segment.vaddr (length segment.bytes) x above within, le-leb segment.vaddr x above)
          | inr past ↦ rw (is_among-outside segment.vaddr (length segment.bytes) x (λ above. past), le-leb segment.vaddr x above, get_or_past segment.bytes (x - segment.vaddr) 0 (omega arith))
        ]
      ]

  -- a segment's pages are zeros with its bytes written
  pub with_segment-mapped : with_bytes segment.vaddr segment.bytes (with_zeros (first_page segment) (page_count segment) segment.perm memory) ≡ with_segment segment memory
  unfolding with_bytes with_cells with_segment
  with_segment-mapped = fun_ext (λ x.
      elim (cases_lt (page_of x) (first_page segment)) [
        | inl below ↦ outside x (λ above. absurd (omega arith))
        | inr above ↦ elim (cases_lt (last_page segment) (page_of x)) [
          | inl past ↦ outside x (λ above. past)
          | inr within ↦
              rw (is_among-inside (first_page segment) (page_count segment) (page_of x) above (omega arith), covers-inside x segment above within)
              (ap Some (written-segment x))
        ]
      ])
    where
      outside : (x : ℕ) → (first_page segment ≤ page_of x → last_page segment < page_of x) →
          option_map (written segment.vaddr segment.bytes x) (cond (is_among (first_page segment) (page_count segment) (page_of x)) (Some (record { perm = segment.perm; byte = 0 })) (memory x))
          ≡ cond (covers x segment) (Some (cell_at x segment)) (memory x)
      outside x apart =
          rw (is_among-apart (first_page segment) (page_count segment) (page_of x) (λ above below. (let past : last_page segment < page_of x = apart above in absurd (omega arith))), covers-outside x segment apart)
          (option_map-same (memory x) (written segment.vaddr segment.bytes x) (λ cell. rw (untouched x apart)))

-- a segment's pages are the cells that it has
pub with_segment-cells : (segment : LoadSegment) (memory : Memory) → IsLoadable segment →
    with_cells (first_page segment) (page_count segment) (λ address. Some (cell_at address segment)) memory ≡ with_segment segment memory
unfolding with_cells with_segment
with_segment-cells segment memory loadable =
    let some : 0 < segment.memsz = loadable.not_empty in
    fun_ext (λ x.
    elim (cases_lt (page_of x) (first_page segment)) [
      | inl below ↦
          rw (is_among-outside (first_page segment) (page_count segment) (page_of x) (λ above. absurd (omega arith)), covers-outside x segment (λ above. absurd (omega arith)))
      | inr above ↦ elim (cases_lt (last_page segment) (page_of x)) [
        | inl past ↦
            rw (is_among-outside (first_page segment) (page_count segment) (page_of x) (λ _. omega arith), covers-outside x segment (λ _. past))
        | inr within ↦
            rw (is_among-inside (first_page segment) (page_count segment) (page_of x) above (omega arith), covers-inside x segment above within)
      ]
    ])

-- the segments of an image lie on pages of their own, in order
AreOrdered-rest : (segment : LoadSegment) (segments : List LoadSegment) → AreOrdered (segment ∷ segments) → AreOrdered segments
AreOrdered-rest segment [] ordered = tt
AreOrdered-rest segment (next ∷ segments) ordered = ordered.2

AreOrdered-first : (segment : LoadSegment) (segments : List LoadSegment) → AreOrdered (segment ∷ segments) → IsLoadable segment
AreOrdered-first segment [] ordered = ordered
AreOrdered-first segment (next ∷ segments) ordered = ordered.0

later-above : (segment : LoadSegment) (segments : List LoadSegment) → AreOrdered (segment ∷ segments) → (index : ℕ) (other : LoadSegment) → index < length segments →
    last_page segment < first_page (slice_index_or segments index other)
later-above segment [] ordered index other within = absurd (omega arith)
later-above segment (next ∷ segments) ordered zero other within = ordered.1
later-above segment (next ∷ segments) ordered (suc index) other within =
    let apart : last_page segment < first_page next = ordered.1 in
    let loadable : IsLoadable next = AreOrdered-first next segments ordered.2 in
    let some : 0 < next.memsz = loadable.not_empty in
    let later : last_page next < first_page (slice_index_or segments index other) = later-above next segments ordered.2 index other (omega arith) in omega arith

earlier-apart : (x : ℕ) (segments : List LoadSegment) → AreOrdered segments → (index : ℕ) (other : LoadSegment) → index < length segments →
    first_page (slice_index_or segments index other) ≤ page_of x → find (covers x) (take index segments) ≡ None
earlier-apart x [] ordered index other within above = absurd (omega arith)
earlier-apart x (segment ∷ segments) ordered zero other within above = refl
earlier-apart x (segment ∷ segments) ordered (suc index) other within above =
    let below : last_page segment < first_page (slice_index_or segments index other) = later-above segment segments ordered index other (omega arith) in
    rw (covers-outside x segment (λ _. (let past : last_page segment < page_of x = omega arith in past)))
    (earlier-apart x segments (AreOrdered-rest segment segments ordered) index other (omega arith) above)

option_or-none : (found : Option LoadSegment) → option_or found None ≡ found
option_or-none None = refl
option_or-none (Some segment) = refl

-- one more segment, and none
pub segments-more : (segments : List LoadSegment) (done : ℕ) (other : LoadSegment) → AreOrdered segments → done < length segments →
    with_segment (slice_index_or segments done other) (memory_of_segments (take done segments)) ≡ memory_of_segments (take (done + 1) segments)
unfolding with_segment memory_of_segments
segments-more segments done other ordered within = rw (take_more segments done other within) (fun_ext (λ x.
    rw (find-append (covers x) (take done segments) (slice_index_or segments done other ∷ []))
    (elim (cases_Bool (covers x (slice_index_or segments done other))) [
      | inl inside ↦
          (let above : first_page (slice_index_or segments done other) ≤ page_of x = leb-true _ _ (and_parts (nat_le (first_page (slice_index_or segments done other)) (page_of x)) (nat_le (page_of x) (last_page (slice_index_or segments done other))) inside).0 in
          rw (inside, earlier-apart x segments ordered done other within above))
      | inr outside ↦ rw (outside, option_or-none (find (covers x) (take done segments)))
    ])))

pub segments-none : memory_of_segments [] ≡ (λ _. None)
unfolding memory_of_segments
segments-none = refl

-- the stack's pages on top of the segments are the memory of the image
pub memory_of-mapped : (image : LoadImage) →
    with_zeros 524224 64 (record { read = true; write = true; execute = false }) (memory_of_segments image.segments) ≡ memory_of image
unfolding with_cells memory_of_segments
memory_of-mapped image = fun_ext (λ x.
    elim (cases_lt x 2147221504) [
      | inl below ↦ rw (is_among-outside 524224 64 (page_of x) (λ above. absurd (omega arith)), is_among-outside 2147221504 262144 x (λ above. absurd (omega arith)))
      | inr above ↦ elim (cases_lt x 2147483648) [
        | inl within ↦ rw (is_among-inside 524224 64 (page_of x) (omega arith) (omega arith), is_among-inside 2147221504 262144 x above within)
        | inr past ↦ rw (is_among-outside 524224 64 (page_of x) (λ above'. omega arith), is_among-outside 2147221504 262144 x (λ above'. past))
      ]
    ])

pub ruleset loading = (with_segment-mapped, segments-more, segments-none, memory_of-mapped)
