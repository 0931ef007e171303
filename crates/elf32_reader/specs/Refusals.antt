use Rattle.std.specs.Prelude.{◌≡◌, ℕ, ◌+◌, ◌*◌, ◌%◌, Bool, ◌&&◌, ◌||◌, ◌==◌, false, not, nat_lt, nat_le, nat_eq, if◌then◌else◌, Option, Some, None, option_map, List, [], ◌∷◌, ◌++◌, length, slice_index, sum_by, ◌⊎◌, Result, MatchResult}
use Rattle.std.specs.List.{flat_map, last_or, list_any, range_with_len, starts_with}
use Rattle.std.specs.Option.{option_map_or}
use Rattle.guest_memory.specs.Layout.{image_start, image_end, image_pages}
use Rattle.elf32_reader.specs.declared.fault.ElfFault.{ElfFault}
use Rattle.elf32_reader.specs.declared.fault.ElfFault.TheVariants.{TooLarge, Truncated, NotElf, NotClass32, NotLittleEndian, BadVersion, NotExec, NotRiscV, BadFlags, BadHeaderSize, TooManySegments, TableOutside, Interpreter, SegmentSizes, SegmentOutsideFile, SegmentOutsideWindow, WritableCode, SegmentOrder, TooManyPages, BadEntry, OutOfMemory}
use Rattle.elf32_reader.specs.Format.{file_limit, header_size, elfclass32, elfdata2lsb, ev_current, et_exec, em_riscv, segment_limit, program_header_size, pt_dynamic, pt_interp, pf_x, pf_w}
use Rattle.elf32_reader.specs.declared.program_header.ProgramHeader.{ProgramHeader}
use Rattle.elf32_reader.specs.Fields.{file_header, program_header}
use Rattle.elf32_reader.specs.LoadSegment.{first_page, last_page, page_count, covers}
use Rattle.elf32_reader.specs.LoadImage.{LoadImage}
use Rattle.elf32_reader.specs.Segments.{has_flag, is_load, is_segment, segment_of, segments_before, image_of}

-- a refusal, and whether its condition holds
abbrev pub Refusal : Type 0
Refusal = ElfFault × Bool

-- the first of the refusals whose condition holds
unfoldable pub first_applying : List Refusal → Option ElfFault
first_applying [] = None
first_applying (refusal ∷ refusals) = if refusal.1 then Some refusal.0 else first_applying refusals

-- the refusals of a file for its size
unfoldable pub size_refusals : List ℕ → List Refusal
size_refusals file = (TooLarge, nat_lt file_limit (length file)) ∷ (Truncated, nat_lt (length file) header_size) ∷ []

-- for the bytes that identify it as ELF, and its version (System V ABI, ELF identification)
unfoldable pub ident_refusals : List ℕ → List Refusal
ident_refusals file =
    (NotElf, not (starts_with nat_eq file (0x7F ∷ 0x45 ∷ 0x4C ∷ 0x46 ∷ [])))
    ∷ (NotClass32, not (slice_index file 4 == elfclass32))
    ∷ (NotLittleEndian, not (slice_index file 5 == elfdata2lsb))
    ∷ (BadVersion, not (slice_index file 6 == ev_current && (file_header file).e_version == ev_current))
    ∷ []

-- for the fields of its header (System V ABI, ELF header)
unfoldable pub header_refusals : List ℕ → List Refusal
header_refusals file =
    let header = file_header file in
    (NotExec, not (header.e_type == et_exec))
    ∷ (NotRiscV, not (header.e_machine == em_riscv))
    ∷ (BadFlags, not (header.e_flags == 0))
    ∷ (BadHeaderSize, not (header.e_ehsize == header_size && header.e_phentsize == program_header_size))
    ∷ (TooManySegments, nat_lt segment_limit header.e_phnum)
    ∷ (TableOutside, not (header.e_phnum == 0) && nat_lt (length file) (header.e_phoff + program_header_size * header.e_phnum))
    ∷ []

-- for the segment that a program header describes, given the last page of the segment before it, if there is one
abbrev pub segment_refusals : List ℕ → Option ℕ → ProgramHeader → List Refusal
segment_refusals file before header =
    (SegmentOutsideFile, is_segment header && nat_lt (length file) (header.p_offset + header.p_filesz))
    ∷ (SegmentOutsideWindow, is_segment header && (nat_lt header.p_vaddr image_start || nat_lt image_end (header.p_vaddr + header.p_memsz)))
    ∷ (WritableCode, is_segment header && (has_flag header.p_flags pf_w && has_flag header.p_flags pf_x))
    ∷ (SegmentOrder, is_segment header && option_map_or (λ page. nat_le (first_page (segment_of file header)) page) before false)
    ∷ []

-- for a program header, given the same
abbrev pub program_refusals : List ℕ → Option ℕ → ProgramHeader → List Refusal
program_refusals file before header =
    (Interpreter, header.p_type == pt_dynamic || header.p_type == pt_interp)
    ∷ (SegmentSizes, is_load header && nat_lt header.p_memsz header.p_filesz)
    ∷ segment_refusals file before header

-- for the program header with a number: the segment before it is the last that the program headers before it describe
unfoldable pub row_refusals : List ℕ → ℕ → List Refusal
row_refusals file row =
    program_refusals file (option_map last_page (last_or None (segments_before file row))) (program_header file row)

-- for the first count program headers, one after the other
unfoldable pub table_refusals : List ℕ → ℕ → List Refusal
table_refusals file count = flat_map (row_refusals file) (range_with_len 0 count)

-- for its image as a whole: the number of its pages, and an entry that is no multiple of 4 or has no executable page
unfoldable pub image_refusals : LoadImage → List Refusal
image_refusals image =
    (TooManyPages, nat_lt image_pages (sum_by page_count image.segments))
    ∷ (BadEntry, not (image.entry % 4 == 0 && list_any (λ segment. covers image.entry segment && segment.perm.execute) image.segments))
    ∷ []

-- for the file and its header
unfoldable pub file_refusals : List ℕ → List Refusal
file_refusals file = size_refusals file ++ (ident_refusals file ++ header_refusals file)

-- all refusals of a file, in the order in which they are tested
abbrev pub refusals_of : List ℕ → List Refusal
refusals_of file = file_refusals file ++ (table_refusals file (file_header file).e_phnum ++ image_refusals (image_of file))

-- why a file is refused, if it is
unfoldable pub first_refusal : List ℕ → Option ElfFault
first_refusal file = first_applying (refusals_of file)

-- a fault of reading a file: its first refusal, or no memory for the image of a file that isn't refused
abbrev pub IsFaultOf : List ℕ → ElfFault → Type 0
IsFaultOf file fault = (first_refusal file ≡ Some fault) ⊎ ((first_refusal file ≡ None) × (fault ≡ OutOfMemory))

-- a test of refusals passes where none of them applies, and else answers the first that does
abbrev pub Tests : {X : Type 0} → Result X ElfFault → List Refusal → Type 0
Tests result refusals =
    MatchResult result (λ _. first_applying refusals ≡ None) (λ fault. first_applying refusals ≡ Some fault)
