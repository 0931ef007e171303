-- What the program headers of a core file describe.
use Rattle.std.proofs.Common.{◌≡◌, ℕ, zero, suc, ◌+◌, ◌-◌, ◌*◌, ◌^◌, ◌<◌, Bool, true, false, All, List, [], ◌∷◌, ◌++◌, length, map, filter, take, drop, refl, ap, sym, subst, ◌∙◌, append_assoc, arith, sum_by, ne_eqb}
use Rattle.std.specs.Prelude.{nat_eq, not, slice_range}
use Rattle.std.specs.List.{range_with_len}
use Rattle.std.proofs.lemmas.Bool.{and_from, and_left, cond-true, cond-false}
use Rattle.std.proofs.lemmas.List.{drop-drop, length-append}
use Rattle.std.proofs.lemmas.List.Sums.{sum_by-cons}
use Rattle.std.proofs.Math.Seq.{drop-append_seam, take-append_seam}
use Rattle.byteorder.specs.Endian.{little_number}
use Rattle.byteorder.specs.Numbers.{little_number-reads_back}
use Rattle.guest_memory.specs.declared.perm.Perm.{Perm}
use Rattle.elf32_reader.specs.Fields.{file_header, half_at, program_header, program_header_at, word_at}
use Rattle.elf32_reader.specs.LoadSegment.{LoadSegment}
use Rattle.elf32_reader.specs.Segments.{is_segment, perm_of, segment_of, segments_before, segments_of}
use Rattle.paged_memory.specs.PageMap.{PageMap}
use Rattle.core_file.specs.Core.{Fits, bytes_of, core_of, flags_of, head_of, load_header, load_headers, note_header, notes_start}
use Rattle.core_file.specs.Fields.{elf_header, program_header_bytes, word, words}
use Rattle.core_file.specs.Loads.{IsWhole}
use Rattle.core_file.specs.Runs.{IsRunBelow, loads_of}
use Rattle.core_file.specs.declared.run.Run.{Run}
use Rattle.core_file.specs.declared.core_program_header.CoreProgramHeader.{CoreProgramHeader}

-- a number that stands at a place behind an offset
word_there : (file : List ℕ) (at place number : ℕ) (rest : List ℕ) → drop place (drop at file) ≡ word number ++ rest → number < 2 ^ 32 → word_at file (at + place) ≡ number
unfolding word_at
word_there file at place number rest there small =
    ap (little_number 4) (sym (drop-drop place at file) ∙ there) ∙ little_number-reads_back 4 number rest small

-- the fields of a program header are 32-bit numbers
record AreWords (header : CoreProgramHeader) : Type 0 where
  type : header.p_type < 2 ^ 32
  offset : header.p_offset < 2 ^ 32
  vaddr : header.p_vaddr < 2 ^ 32
  filesz : header.p_filesz < 2 ^ 32
  memsz : header.p_memsz < 2 ^ 32
  flags : header.p_flags < 2 ^ 32

-- what is read at an offset is a program header as it was written
record AreReadAt (file : List ℕ) (at : ℕ) (header : CoreProgramHeader) : Type 0 where
  type : (program_header_at file at).p_type ≡ header.p_type
  offset : (program_header_at file at).p_offset ≡ header.p_offset
  vaddr : (program_header_at file at).p_vaddr ≡ header.p_vaddr
  filesz : (program_header_at file at).p_filesz ≡ header.p_filesz
  memsz : (program_header_at file at).p_memsz ≡ header.p_memsz
  flags : (program_header_at file at).p_flags ≡ header.p_flags

header_read : (file : List ℕ) (at : ℕ) (header : CoreProgramHeader) (rest : List ℕ) → drop at file ≡ program_header_bytes header ++ rest → AreWords header → AreReadAt file at header
unfolding program_header_at program_header_bytes
header_read file at header rest there small =
    let first : word_at file (at + 0) ≡ header.p_type =
    word_there file at 0 header.p_type (words (header.p_offset ∷ header.p_vaddr ∷ 0 ∷ header.p_filesz ∷ header.p_memsz ∷ header.p_flags ∷ header.p_align ∷ []) ++ rest) (ap (drop 0) there) small.type in
    let same : at ≡ at + 0 = omega arith in
    record {
      type = ap (word_at file) same ∙ first;
      offset = word_there file at 4 header.p_offset (words (header.p_vaddr ∷ 0 ∷ header.p_filesz ∷ header.p_memsz ∷ header.p_flags ∷ header.p_align ∷ []) ++ rest) (ap (drop 4) there) small.offset;
      vaddr = word_there file at 8 header.p_vaddr (words (0 ∷ header.p_filesz ∷ header.p_memsz ∷ header.p_flags ∷ header.p_align ∷ []) ++ rest) (ap (drop 8) there) small.vaddr;
      filesz = word_there file at 16 header.p_filesz (words (header.p_memsz ∷ header.p_flags ∷ header.p_align ∷ []) ++ rest) (ap (drop 16) there) small.filesz;
      memsz = word_there file at 20 header.p_memsz (words (header.p_flags ∷ header.p_align ∷ []) ++ rest) (ap (drop 20) there) small.memsz;
      flags = word_there file at 24 header.p_flags (words (header.p_align ∷ []) ++ rest) (ap (drop 24) there) small.flags;
    }

-- what stands behind a program header
behind : (header : CoreProgramHeader) (rest : List ℕ) → drop 32 (program_header_bytes header ++ rest) ≡ rest
unfolding program_header_bytes
behind header rest = refl

flags_read : (read write execute : Bool) → perm_of (flags_of (record { read = read; write = write; execute = execute })) ≡ record { read = read; write = write; execute = execute }
flags_read true true true = refl
flags_read true true false = refl
flags_read true false true = refl
flags_read true false false = refl
flags_read false true true = refl
flags_read false true false = refl
flags_read false false true = refl
flags_read false false false = refl

perm_read : (perm : Perm) → perm_of (flags_of perm) ≡ perm
perm_read perm = flags_read perm.read perm.write perm.execute

flags_small : (read write execute : Bool) → flags_of (record { read = read; write = write; execute = execute }) < 2 ^ 32
flags_small true true true = omega arith
flags_small true true false = omega arith
flags_small true false true = omega arith
flags_small true false false = omega arith
flags_small false true true = omega arith
flags_small false true false = omega arith
flags_small false false true = omega arith
flags_small false false false = omega arith

-- a segment has a 32-bit address
abbrev pub IsLow : LoadSegment → Type 0
IsLow load = load.vaddr < 2 ^ 32

pub all_low : (pages : PageMap) (runs : List Run) → All (IsRunBelow pages (2 ^ 20)) runs → All IsLow (loads_of pages runs)
all_low pages [] each k d inside = absurd (omega arith)
all_low pages (run ∷ runs) each zero d inside =
    let is : IsRunBelow pages (2 ^ 20) run = each 0 run (omega arith) in
    let some = is.not_empty in
    let below = is.below in
    omega arith
all_low pages (run ∷ runs) each (suc k) d inside = all_low pages runs (λ k d inside. each (suc k) d (omega arith)) k d (omega arith)

-- the bytes of segments
abbrev size_in : List LoadSegment → ℕ
size_in loads = sum_by (λ load. load.memsz) loads

not_zero : (number : ℕ) → 0 < number → nat_eq number 0 ≡ false
not_zero number some = ne_eqb number 0 (λ (none : number ≡ 0). omega arith)

filter_yes : {X : Type 0} (test : X → Bool) (x : X) (xs : List X) → test x ≡ true → filter test (x ∷ xs) ≡ x ∷ filter test xs
filter_yes test x xs passes = cond-true (test x) (x ∷ filter test xs) (filter test xs) passes

filter_no : {X : Type 0} (test : X → Bool) (x : X) (xs : List X) → test x ≡ false → filter test (x ∷ xs) ≡ filter test xs
filter_no test x xs fails = cond-false (test x) (x ∷ filter test xs) (filter test xs) fails

module _ (file : List ℕ) (table : (file_header file).e_phoff ≡ 52) where
  header_of : (row : ℕ) (header : CoreProgramHeader) (rest : List ℕ) → drop (52 + 32 * row) file ≡ program_header_bytes header ++ rest → AreWords header
      → AreReadAt file ((file_header file).e_phoff + 32 * row) header
  header_of row header rest there small =
      header_read file ((file_header file).e_phoff + 32 * row) header rest
      (subst (λ (start : ℕ). drop (start + 32 * row) file ≡ program_header_bytes header ++ rest) (sym table) there) small

  -- a segment is read as it was written
  segment_read : (row offset : ℕ) (load : LoadSegment) (rest : List ℕ) → AreReadAt file ((file_header file).e_phoff + 32 * row) (load_header offset load)
      → drop offset file ≡ load.bytes ++ rest → length load.bytes ≡ load.memsz → segment_of file (program_header file row) ≡ load
  segment_read row offset load rest is there size =
      let taken : offset + load.memsz - offset ≡ length load.bytes = omega arith in
      let bytes : slice_range file offset (offset + load.memsz) ≡ load.bytes =
      ap (λ (count : ℕ). take count (drop offset file)) taken ∙ ap (take (length load.bytes)) there ∙ take-append_seam load.bytes rest in
      let read = program_header file row in
      ap (λ (vaddr : ℕ). record { vaddr = vaddr; memsz = read.p_memsz; perm = perm_of read.p_flags; bytes = slice_range file read.p_offset (read.p_offset + read.p_filesz) }) is.vaddr
      ∙ ap (λ (memsz : ℕ). record { vaddr = load.vaddr; memsz = memsz; perm = perm_of read.p_flags; bytes = slice_range file read.p_offset (read.p_offset + read.p_filesz) }) is.memsz
      ∙ ap (λ (flags : ℕ). record { vaddr = load.vaddr; memsz = load.memsz; perm = perm_of flags; bytes = slice_range file read.p_offset (read.p_offset + read.p_filesz) }) is.flags
      ∙ ap (λ (perm : Perm). record { vaddr = load.vaddr; memsz = load.memsz; perm = perm; bytes = slice_range file read.p_offset (read.p_offset + read.p_filesz) }) (perm_read load.perm)
      ∙ ap (λ (at : ℕ). record { vaddr = load.vaddr; memsz = load.memsz; perm = load.perm; bytes = slice_range file at (at + read.p_filesz) }) is.offset
      ∙ ap (λ (size : ℕ). record { vaddr = load.vaddr; memsz = load.memsz; perm = load.perm; bytes = slice_range file offset (offset + size) }) is.filesz
      ∙ ap (λ (bytes : List ℕ). record { vaddr = load.vaddr; memsz = load.memsz; perm = load.perm; bytes = bytes }) bytes

  rows_read : (loads : List LoadSegment) (row offset : ℕ) (after : List ℕ) → drop (52 + 32 * row) file ≡ load_headers offset loads ++ after → drop offset file ≡ bytes_of loads
      → All IsWhole loads → All IsLow loads → offset + size_in loads < 2 ^ 32
      → map (segment_of file) (filter is_segment (map (program_header file) (range_with_len row (length loads)))) ≡ loads
  unfolding load_headers
  rows_read [] row offset after there bytes whole low small = refl
  rows_read (load ∷ loads) row offset after there bytes whole low small =
      let is : IsWhole load = whole 0 load (omega arith) in
      let some = is.not_empty in
      let size = is.bytes in
      let sum : size_in (load ∷ loads) ≡ load.memsz + size_in loads = sum_by-cons (λ (load : LoadSegment). load.memsz) load loads in
      let header : CoreProgramHeader = load_header offset load in
      let rest : List ℕ = load_headers (offset + load.memsz) loads in
      let here : drop (52 + 32 * row) file ≡ program_header_bytes header ++ (rest ++ after) = there ∙ append_assoc (program_header_bytes header) rest after in
      let words : AreWords header = record {
        type = omega arith;
        offset = omega arith;
        vaddr = low 0 load (omega arith);
        filesz = omega arith;
        memsz = omega arith;
        flags = flags_small load.perm.read load.perm.write load.perm.execute;
      } in
      let read : AreReadAt file ((file_header file).e_phoff + 32 * row) header = header_of row header (rest ++ after) here words in
      let later : drop (52 + 32 * (row + 1)) file ≡ rest ++ after =
      ap (λ (at : ℕ). drop at file) (omega arith) ∙ sym (drop-drop 32 (52 + 32 * row) file) ∙ ap (drop 32) here ∙ behind header (rest ++ after) in
      let bytes_later : drop (offset + load.memsz) file ≡ bytes_of loads =
      sym (drop-drop load.memsz offset file) ∙ ap (drop load.memsz) bytes ∙ ap (λ (count : ℕ). drop count (load.bytes ++ bytes_of loads)) (sym size) ∙ drop-append_seam load.bytes (bytes_of loads) in
      let others = rows_read loads (row + 1) (offset + load.memsz) after later bytes_later (λ k d inside. whole (suc k) d (omega arith)) (λ k d inside. low (suc k) d (omega arith)) (omega arith) in
      let loaded : nat_eq (program_header file row).p_type 1 ≡ true = ap (λ (type : ℕ). nat_eq type 1) read.type in
      let filled : not (nat_eq (program_header file row).p_memsz 0) ≡ true = ap (λ (size : ℕ). not (nat_eq size 0)) read.memsz ∙ ap not (not_zero load.memsz some) in
      let passes : is_segment (program_header file row) ≡ true = and_from _ _ loaded filled in
      ap (map (segment_of file)) (filter_yes is_segment (program_header file row) (map (program_header file) (range_with_len (row + 1) (length loads))) passes)
      ∙ ap (λ (one : LoadSegment). one ∷ map (segment_of file) (filter is_segment (map (program_header file) (range_with_len (row + 1) (length loads))))) (segment_read row offset load (bytes_of loads) read bytes size)
      ∙ ap (λ (loads : List LoadSegment). load ∷ loads) others

headers_size : (offset : ℕ) (loads : List LoadSegment) → length (load_headers offset loads) ≡ 32 * length loads
unfolding load_headers program_header_bytes
headers_size offset [] = refl
headers_size offset (load ∷ loads) = let rest = headers_size (offset + load.memsz) loads in omega arith

module _ (notes : List ℕ) (loads : List LoadSegment) (fits : Fits notes loads) where
  abbrev count : ℕ
  count = length loads + 1

  abbrev start : ℕ
  start = notes_start loads

  abbrev all : List ℕ
  all = core_of notes loads

  table_start : (file_header all).e_phoff ≡ 52
  unfolding elf_header word_at
  table_start = refl

  table_size : (file_header all).e_phnum ≡ count
  unfolding elf_header half_at
  table_size = let headers = fits.headers in omega arith

  first_row : drop (52 + 32 * 0) all ≡ program_header_bytes (note_header start (length notes)) ++ ((load_headers (start + length notes) loads ++ notes) ++ bytes_of loads)
  unfolding elf_header
  first_row = append_assoc (program_header_bytes (note_header start (length notes))) (load_headers (start + length notes) loads ++ notes) (bytes_of loads)

  other_rows : drop (52 + 32 * 1) all ≡ load_headers (start + length notes) loads ++ (notes ++ bytes_of loads)
  unfolding elf_header program_header_bytes
  other_rows = append_assoc (load_headers (start + length notes) loads) notes (bytes_of loads)

  head_size : length (head_of notes loads) ≡ start + length notes
  unfolding elf_header program_header_bytes
  head_size =
      let headers = headers_size (start + length notes) loads in
      let both = length-append (load_headers (start + length notes) loads) notes in
      omega arith

  bytes_there : drop (start + length notes) all ≡ bytes_of loads
  bytes_there = ap (λ (at : ℕ). drop at all) (sym head_size) ∙ drop-append_seam (head_of notes loads) (bytes_of loads)

  -- the segments that a core file describes are those that it was made of
  pub described : All IsWhole loads → All IsLow loads → segments_of all ≡ loads
  unfolding segments_before
  described whole low =
      let size = fits.size in
      let words : AreWords (note_header start (length notes)) = record {
        type = omega arith;
        offset = omega arith;
        vaddr = omega arith;
        filesz = omega arith;
        memsz = omega arith;
        flags = omega arith;
      } in
      let note : AreReadAt all ((file_header all).e_phoff + 32 * 0) (note_header start (length notes)) =
      header_of all table_start 0 (note_header start (length notes)) ((load_headers (start + length notes) loads ++ notes) ++ bytes_of loads) first_row words in
      let unloaded : nat_eq (program_header all 0).p_type 1 ≡ false = ap (λ (type : ℕ). nat_eq type 1) note.type in
      let none : is_segment (program_header all 0) ≡ false = and_left _ _ unloaded in
      let more : count ≡ suc (length loads) = omega arith in
      ap (λ (rows : ℕ). map (segment_of all) (filter is_segment (map (program_header all) (range_with_len 0 rows)))) (table_size ∙ more)
      ∙ ap (map (segment_of all)) (filter_no is_segment (program_header all 0) (map (program_header all) (range_with_len 1 (length loads))) none)
      ∙ rows_read all table_start loads 1 (start + length notes) (notes ++ bytes_of loads) other_rows bytes_there whole low (omega arith)
