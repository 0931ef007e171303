use Rattle.std.specs.Prelude.{ℕ, ◌+◌, ◌-◌, ◌*◌, ◌%◌, ◌^◌, Bool, ◌&&◌, ◌==◌, nat_le, List, ◌++◌, length, filter, codes, slice_index}
use Rattle.std.specs.List.{range_with_len, flat_map}
use Rattle.elf32_reader.specs.LoadSegment.{LoadSegment}
use Rattle.elf32_reader.specs.LoadImage.{LoadImage}
use Rattle.text_output.specs.Digits.{hexadecimal}
use Rattle.disassembler.specs.Texts.{text_of}

-- a word's line: its address, the word, its text
abbrev pub word_line : (address word : ℕ) → List ℕ
word_line address word =
    hexadecimal 8 address ++ codes ": " ++ hexadecimal 8 word ++ codes " " ++ text_of address word ++ codes "\n"

-- the word whose four bytes stand from an index on, the lowest first
abbrev pub word_from : List ℕ → ℕ → ℕ
word_from bytes index =
    slice_index bytes index + 2 ^ 8 * slice_index bytes (index + 1) + 2 ^ 16 * slice_index bytes (index + 2) + 2 ^ 24 * slice_index bytes (index + 3)

-- whether an address is a multiple of 4 and no byte of its word lies after the segment's file bytes
abbrev pub has_word : LoadSegment → ℕ → Bool
has_word segment address = (address % 4 == 0) && nat_le (address + 4) (segment.vaddr + length segment.bytes)

-- the addresses of the words that lie in the segment's file bytes, ascending
abbrev pub word_addresses : LoadSegment → List ℕ
word_addresses segment = filter (has_word segment) (range_with_len segment.vaddr (length segment.bytes))

-- the line of the word at an address of a segment
abbrev pub line_at : LoadSegment → ℕ → List ℕ
line_at segment address = word_line address (word_from segment.bytes (address - segment.vaddr))

-- the lines of a segment's words
unfoldable pub segment_listing : LoadSegment → List ℕ
segment_listing segment = flat_map (line_at segment) (word_addresses segment)

-- the lines of a program: those of its executable segments
unfoldable pub listing_of : LoadImage → List ℕ
listing_of image = flat_map segment_listing (filter (λ segment. segment.perm.execute) image.segments)
