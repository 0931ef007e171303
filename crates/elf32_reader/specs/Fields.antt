use Rattle.std.specs.Prelude.{◌≡◌, ℕ, ◌+◌, ◌*◌, ◌<◌, ◌≤◌, List, drop, length}
use Rattle.byteorder.specs.Endian.{little_number}
use Rattle.elf32_reader.specs.declared.file_header.FileHeader.{FileHeader}
use Rattle.elf32_reader.specs.declared.program_header.ProgramHeader.{ProgramHeader}
use Rattle.elf32_reader.specs.Format.{program_header_size}

-- the number in the 2 bytes from an offset on, the lowest first, and that in the 4 bytes (System V ABI: Elf32_Half; Elf32_Word,
-- Elf32_Addr and Elf32_Off)
unfoldable pub half_at : List ℕ → ℕ → ℕ
half_at file offset = little_number 2 (drop offset file)

unfoldable pub word_at : List ℕ → ℕ → ℕ
word_at file offset = little_number 4 (drop offset file)

-- a file's header, its fields at their offsets (System V ABI, ELF header)
abbrev pub file_header : List ℕ → FileHeader
file_header file =
    record {
      e_type = half_at file 16;
      e_machine = half_at file 18;
      e_version = word_at file 20;
      e_entry = word_at file 24;
      e_phoff = word_at file 28;
      e_flags = word_at file 36;
      e_ehsize = half_at file 40;
      e_phentsize = half_at file 42;
      e_phnum = half_at file 44;
    }

-- the program header at an offset (System V ABI, program header)
unfoldable pub program_header_at : List ℕ → ℕ → ProgramHeader
program_header_at file offset =
    record {
      p_type = word_at file offset;
      p_offset = word_at file (offset + 4);
      p_vaddr = word_at file (offset + 8);
      p_filesz = word_at file (offset + 16);
      p_memsz = word_at file (offset + 20);
      p_flags = word_at file (offset + 24);
    }

-- the program header with a number, from 0
abbrev pub program_header : List ℕ → ℕ → ProgramHeader
program_header file row = program_header_at file ((file_header file).e_phoff + program_header_size * row)

-- the file has each program header that its header tells of
abbrev pub HasTable : List ℕ → Type 0
HasTable file =
    let header = file_header file in
    (row : ℕ) → row < header.e_phnum → header.e_phoff + program_header_size * row + program_header_size ≤ length file

-- It is the file's header, and the file has each program header that it tells of.
pub record HasHeader (file : List ℕ) (read : FileHeader) : Type 0 where
  pub header : read ≡ file_header file
  pub inside : HasTable file
