-- The headers of a core file as bytes.
use Rattle.std.specs.Prelude.{ℕ, List, [], ◌∷◌, ◌++◌}
use Rattle.std.specs.List.{flat_map}
use Rattle.byteorder.specs.Endian.{little_bytes}
use Rattle.elf32_reader.specs.Format.{header_size, program_header_size, elfclass32, elfdata2lsb, ev_current, em_riscv}
use Rattle.core_file.specs.declared.core_program_header.CoreProgramHeader.{CoreProgramHeader}

-- a number in 2 bytes, in 4 bytes, the lowest first (System V ABI: Elf32_Half; Elf32_Word, Elf32_Addr and Elf32_Off)
abbrev pub half : ℕ → List ℕ
half number = little_bytes 2 number

abbrev pub word : ℕ → List ℕ
word number = little_bytes 4 number

abbrev pub words : List ℕ → List ℕ
words numbers = flat_map word numbers

-- core files (System V ABI, ELF Header: e_type), notes (Program Header: p_type)
abbrev pub et_core : ℕ
et_core = 4

abbrev pub pt_note : ℕ
pt_note = 4

-- the header of a core file with so many program headers, which follow it; it has no section (System V ABI, ELF Header)
unfoldable pub elf_header : ℕ → List ℕ
elf_header count =
    (0x7F ∷ 0x45 ∷ 0x4C ∷ 0x46 ∷ elfclass32 ∷ elfdata2lsb ∷ ev_current ∷ 0 ∷ 0 ∷ 0 ∷ 0 ∷ 0 ∷ 0 ∷ 0 ∷ 0 ∷ 0 ∷ [])
    ++ (flat_map half (et_core ∷ em_riscv ∷ [])
    ++ (words (ev_current ∷ 0 ∷ header_size ∷ 0 ∷ 0 ∷ []) ++ flat_map half (header_size ∷ program_header_size ∷ count ∷ 0 ∷ 0 ∷ 0 ∷ [])))

-- a program header; its physical address is 0 (System V ABI, Program Header)
unfoldable pub program_header_bytes : CoreProgramHeader → List ℕ
program_header_bytes header =
    words
    (header.p_type ∷ header.p_offset ∷ header.p_vaddr ∷ 0 ∷ header.p_filesz ∷ header.p_memsz ∷ header.p_flags ∷ header.p_align ∷ [])
