-- The symbols of a file.
use Rattle.std.specs.Prelude.{ℕ, ◌/◌, ◌%◌, ◌&&◌, ◌==◌, not, nat_lt, if◌then◌else◌, Option, None, option_map, List, filter_map}
use Rattle.symbols.specs.declared.entry.Entry.{Entry}
use Rattle.symbols.specs.Entries.{entries_of}
use Rattle.symbols.specs.Format.{stt_object, stt_func, stb_global, shn_undef}
use Rattle.symbols.specs.Names.{name_at}
use Rattle.symbols.specs.Sections.{bytes_of, sections_of, string_table, symbol_table}
use Rattle.symbols.specs.Symbol.{Symbol, SymbolLists}

-- The symbol of a type that an entry describes. Those that are empty, not defined or have no name are left out.
unfoldable pub symbol_of : List ℕ → ℕ → Entry → Option Symbol
symbol_of strings type entry =
    if entry.st_info % 16 == type && (nat_lt 0 entry.st_size && not (entry.st_shndx == shn_undef)) then
    option_map
    (λ name. record { name = name; value = entry.st_value; size = entry.st_size; is_global = entry.st_info / 16 == stb_global })
    (name_at strings entry.st_name)
    else None

-- the symbols of a type in a symbol table
unfoldable pub symbols_in : List ℕ → List ℕ → ℕ → List Symbol
symbols_in strings table type = filter_map (symbol_of strings type) (entries_of table)

-- the symbols of a file
unfoldable pub symbols_of : List ℕ → SymbolLists
symbols_of file =
    let strings = bytes_of file (string_table (sections_of file)) in
    let table = bytes_of file (symbol_table (sections_of file)) in
    record { objects = symbols_in strings table stt_object; functions = symbols_in strings table stt_func }
