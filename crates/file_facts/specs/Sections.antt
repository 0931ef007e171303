-- The sections of a file of 32 bits (System V ABI, Section Header): how many symbols it has, and whether it has DWARF.
use Rattle.std.specs.Prelude.{ℕ, zero, suc, ◌+◌, ◌*◌, ◌/◌, ◌&&◌, ◌==◌, nat_eq, nat_le, nat_lt, is_none, Bool, if◌then◌else◌, Option, Some, None, List, [], ◌∷◌, ◌++◌, codes, decimal, drop, length}
use Rattle.std.specs.List.{starts_with}
use Rattle.file_facts.specs.Fields.{half_at, word_at}
use Rattle.file_facts.specs.Format.{section_header_size, sht_symtab, symbol_size}
use Rattle.file_facts.specs.declared.sections.Wanted.{Wanted}
use Rattle.file_facts.specs.declared.sections.Wanted.TheVariants.{Symbols, Debugging}

-- how many section headers a file has: none unless each has 40 bytes and all of them are inside of the file
unfoldable pub section_count : List ℕ → ℕ
section_count file =
    let is_inside = nat_le (word_at file 32 + section_header_size * half_at file 48) (length file) in
    if half_at file 46 == section_header_size && is_inside then half_at file 48 else 0

-- where a section header begins
abbrev pub section_start : List ℕ → ℕ → ℕ
section_start file row = word_at file 32 + section_header_size * row

-- where the names of sections are: the offset of the section that the header names for them (ELF Header: e_shstrndx), 0 if there is none
unfoldable pub names_start : List ℕ → ℕ
names_start file = if nat_lt (half_at file 50) (section_count file) then word_at file (section_start file (half_at file 50) + 16) else 0

-- the name of the section with DWARF's entries, and the byte 0 behind it (DWARF 5, 7.5.1)
abbrev pub debug_info : List ℕ
debug_info = codes ".debug_info\0"

-- that name is at an offset
abbrev pub begins_so : List ℕ → ℕ → Bool
begins_so file offset = starts_with nat_eq (drop offset file) debug_info

-- the section whose header begins at an offset is a wanted one
unfoldable pub is_wanted : List ℕ → Wanted → ℕ → Bool
is_wanted file Symbols start = word_at file (start + 4) == sht_symtab
is_wanted file Debugging start = begins_so file (names_start file + word_at file start)

-- the first wanted section of the first ones, so many
unfoldable pub first_of : List ℕ → Wanted → ℕ → Option ℕ
first_of file wanted zero = None
first_of file wanted (suc count) =
    if is_none (first_of file wanted count) && is_wanted file wanted (section_start file count) then Some count else first_of file wanted count

-- the first wanted section of a file
abbrev pub wanted_in : List ℕ → Wanted → Option ℕ
wanted_in file wanted = first_of file wanted (section_count file)

-- how many symbols a section has
abbrev pub symbols_in : List ℕ → Option ℕ → ℕ
symbols_in file None = 0
symbols_in file (Some row) = word_at file (section_start file row + 20) / symbol_size

-- the line of the symbols, and that of DWARF
unfoldable pub sections_text : List ℕ → List ℕ
sections_text file =
    codes "symbols: " ++ decimal (symbols_in file (wanted_in file Symbols)) ++ codes "\nDWARF: "
    ++ (if is_none (wanted_in file Debugging) then codes "no\n" else codes "yes\n")
