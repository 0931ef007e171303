use Rattle.std.proofs.Common.{◌≡◌, ℕ, ◌+◌, ◌-◌, ◌++◌, List, [], ◌∷◌, Bool, true, false, filter, refl, ap, ◌∙◌, if◌then◌else◌, append-nil, map-id, arith}
use Rattle.std.specs.List.{range_with_len, flat_map}
use Rattle.std.proofs.lemmas.List.FromFn.{filter_of_map_range_with_len_more}
use Rattle.std.proofs.lemmas.List.Concat.{flat_map-append}
use Rattle.elf32_reader.specs.LoadSegment.{LoadSegment}
use Rattle.disassembler.specs.Listings.{has_word, line_at, word_line, word_from}

-- the lines of the words that begin at a segment's first count bytes
abbrev pub listed : LoadSegment → ℕ → List ℕ
listed segment count = flat_map (line_at segment) (filter (has_word segment) (range_with_len segment.vaddr count))

flat_map_if : (f : ℕ → List ℕ) (b : Bool) (x : ℕ) → flat_map f (if b then x ∷ [] else []) ≡ (if b then f x else [])
flat_map_if f true x = append-nil (f x)
flat_map_if f false x = refl

-- one byte more
listed-more : (segment : LoadSegment) (count : ℕ) → listed segment (count + 1) ≡ listed segment count ++ (if has_word segment (segment.vaddr + count) then line_at segment (segment.vaddr + count) else [])
listed-more segment count =
    let chosen = filter_of_map_range_with_len_more (has_word segment) (λ (n : ℕ). n) segment.vaddr count (segment.vaddr + count) refl in
    let plain = simp map-id at chosen in
    ap (flat_map (line_at segment)) plain
    ∙ flat_map-append (line_at segment) (filter (has_word segment) (range_with_len segment.vaddr count)) (if has_word segment (segment.vaddr + count) then (segment.vaddr + count) ∷ [] else [])
    ∙ ap (λ (lines : List ℕ). listed segment count ++ lines) (flat_map_if (line_at segment) (has_word segment (segment.vaddr + count)) (segment.vaddr + count))

-- a byte with which a word begins adds the word's line
pub listed-word : (segment : LoadSegment) (index : ℕ) → has_word segment (segment.vaddr + index) ≡ true → listed segment (index + 1) ≡ listed segment index ++ word_line (segment.vaddr + index) (word_from segment.bytes index)
listed-word segment index begins =
    let back : segment.vaddr + index - segment.vaddr ≡ index = omega arith in
    listed-more segment index
    ∙ ap (λ (b : Bool). listed segment index ++ (if b then line_at segment (segment.vaddr + index) else [])) begins
    ∙ ap (λ (n : ℕ). listed segment index ++ word_line (segment.vaddr + index) (word_from segment.bytes n)) back

-- any other byte adds nothing
pub listed-none : (segment : LoadSegment) (index : ℕ) → has_word segment (segment.vaddr + index) ≡ false → listed segment (index + 1) ≡ listed segment index
listed-none segment index passed =
    listed-more segment index
    ∙ ap (λ (b : Bool). listed segment index ++ (if b then line_at segment (segment.vaddr + index) else [])) passed
    ∙ append-nil (listed segment index)
