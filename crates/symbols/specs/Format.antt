-- The numbers that a symbol table is told by, under the standard's names, and which names are kept.
use Rattle.std.specs.Prelude.{ℕ}

-- the bytes of a header, a section header and a symbol (System V ABI, ELF Header, Section Header, Symbol Table)
abbrev pub header_size : ℕ
header_size = 52

abbrev pub section_header_size : ℕ
section_header_size = 40

abbrev pub entry_size : ℕ
entry_size = 16

-- the type of a section that is a symbol table (System V ABI, Section Header: sh_type)
abbrev pub sht_symtab : ℕ
sht_symtab = 2

-- the types of data objects and of functions (System V ABI, Symbol Table: ELF32_ST_TYPE)
abbrev pub stt_object : ℕ
stt_object = 1

abbrev pub stt_func : ℕ
stt_func = 2

-- the binding of global symbols (System V ABI, Symbol Table: ELF32_ST_BIND)
abbrev pub stb_global : ℕ
stb_global = 1

-- the section of symbols that are not defined (System V ABI, Section Header: SHN_UNDEF)
abbrev pub shn_undef : ℕ
shn_undef = 0

-- how many bytes a name has at most
abbrev pub name_limit : ℕ
name_limit = 255
