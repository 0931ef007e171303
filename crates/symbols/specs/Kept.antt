-- What is kept of a symbol.
use Rattle.std.specs.Prelude.{ℕ, ◌+◌, ◌≤◌, List, length, map, slice_range}
use Rattle.symbols.specs.declared.kept_symbol.KeptSymbol.{KeptSymbol}
use Rattle.symbols.specs.Symbol.{Symbol}

-- the symbol that is kept beside a string table
abbrev pub symbol_in : List ℕ → KeptSymbol → Symbol
symbol_in strings kept =
    record {
      name = slice_range strings kept.name (kept.name + kept.name_size);
      value = kept.value;
      size = kept.size;
      is_global = kept.is_global;
    }

-- all of them
unfoldable pub kept_symbols : List ℕ → List KeptSymbol → List Symbol
kept_symbols strings kept = map (symbol_in strings) kept

-- The string table has the whole name.
abbrev pub HasName : List ℕ → KeptSymbol → Type 0
HasName strings kept = kept.name + kept.name_size ≤ length strings
