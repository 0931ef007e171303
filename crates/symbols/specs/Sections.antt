-- The sections of a file.
use Rattle.std.specs.Prelude.{ℕ, ◌+◌, ◌*◌, ◌&&◌, ◌==◌, nat_le, if◌then◌else◌, Option, Some, None, option_and_then, List, [], find, length, map, slice_get, slice_range}
use Rattle.std.specs.List.{range_with_len}
use Rattle.symbols.specs.declared.section.Section.{Section}
use Rattle.symbols.specs.Fields.{half_at, word_at}
use Rattle.symbols.specs.Format.{header_size, section_header_size, sht_symtab}

-- the section header at an offset (System V ABI, Section Header)
unfoldable pub section_at : List ℕ → ℕ → Section
section_at file offset =
    record {
      sh_type = word_at file (offset + 4);
      sh_offset = word_at file (offset + 16);
      sh_size = word_at file (offset + 20);
      sh_link = word_at file (offset + 24);
    }

-- how many section headers a file has (System V ABI, ELF Header: e_shoff, e_shentsize, e_shnum): none unless the file has a whole
-- header, a section header has 40 bytes, and all of them are inside of the file
unfoldable pub section_count : List ℕ → ℕ
section_count file =
    let count = half_at file 48 in
    let is_inside = nat_le (word_at file 32 + section_header_size * count) (length file) in
    if nat_le header_size (length file) && (half_at file 46 == section_header_size && is_inside) then count else 0

-- the section headers of a file
unfoldable pub sections_of : List ℕ → List Section
sections_of file =
    map (λ row. section_at file (word_at file 32 + section_header_size * row)) (range_with_len 0 (section_count file))

-- the bytes of a section: none if it is not there or passes the file's end
abbrev pub bytes_of : List ℕ → Option Section → List ℕ
bytes_of file None = []
bytes_of file (Some section) =
    let end = section.sh_offset + section.sh_size in
    if nat_le end (length file) then slice_range file section.sh_offset end else []

-- the symbol table among some sections: the first one of its type
abbrev pub symbol_table : List Section → Option Section
symbol_table sections = find (λ section. section.sh_type == sht_symtab) sections

-- the string table that it names (System V ABI, Section Header: sh_link)
abbrev pub string_table : List Section → Option Section
string_table sections = option_and_then (λ table. slice_get sections table.sh_link) (symbol_table sections)
