-- The segments of a file of 32 bits (System V ABI, Program Header).
use Rattle.std.specs.Prelude.{ℕ, zero, suc, ◌+◌, ◌*◌, ◌/◌, ◌%◌, ◌&&◌, ◌==◌, nat_le, Bool, if◌then◌else◌, List, [], ◌++◌, codes, length}
use Rattle.text_output.specs.Digits.{hexadecimal}
use Rattle.file_facts.specs.Fields.{half_at, word_at}
use Rattle.file_facts.specs.Format.{pf_r, pf_w, pf_x, program_header_size, pt_load}

-- how many program headers a file has: none unless each has 32 bytes and all of them are inside of the file
unfoldable pub segment_count : List ℕ → ℕ
segment_count file =
    let is_inside = nat_le (word_at file 28 + program_header_size * half_at file 44) (length file) in
    if half_at file 42 == program_header_size && is_inside then half_at file 44 else 0

-- where a program header begins
abbrev pub segment_start : List ℕ → ℕ → ℕ
segment_start file row = word_at file 28 + program_header_size * row

-- whether one flag, a power of two, is among flags
abbrev pub has_flag : ℕ → ℕ → Bool
has_flag flags flag = flags / flag % 2 == 1

-- a letter for a flag, a dash if it is not there
abbrev pub letter : ℕ → ℕ → List ℕ → List ℕ
letter flags flag name = if has_flag flags flag then name else codes "-"

-- what the pages of a segment permit
unfoldable pub flags_text : ℕ → List ℕ
flags_text flags = letter flags pf_r (codes "r") ++ letter flags pf_w (codes "w") ++ letter flags pf_x (codes "x")

-- a word behind its name
unfoldable pub field_text : (name : List ℕ) → (word : ℕ) → List ℕ
field_text name word = name ++ hexadecimal 8 word

-- the line of the program header at an offset: the address, the bytes in memory and in the file, and what its pages permit
unfoldable pub loaded_text : List ℕ → ℕ → List ℕ
loaded_text file start =
    field_text (codes "segment: ") (word_at file (start + 8)) ++ field_text (codes " memory=") (word_at file (start + 20))
    ++ field_text (codes " file=") (word_at file (start + 16)) ++ codes " " ++ flags_text (word_at file (start + 24)) ++ codes "\n"

-- only segments to be loaded have a line
unfoldable pub segment_at : List ℕ → ℕ → List ℕ
segment_at file start = if word_at file start == pt_load then loaded_text file start else []

-- the lines of the first program headers, so many
unfoldable pub segments_before : List ℕ → ℕ → List ℕ
segments_before file zero = []
segments_before file (suc count) = segments_before file count ++ segment_at file (segment_start file count)

-- the lines of all
abbrev pub segments_text : List ℕ → List ℕ
segments_text file = segments_before file (segment_count file)
