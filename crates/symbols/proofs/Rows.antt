-- The symbols of the first entries of a table, with one more entry.
use Rattle.std.proofs.Common.{◌≡◌, ℕ, Option, Some, None, List, [], ◌∷◌, ◌++◌, ap, sym, ◌∙◌, ◌+◌, ◌*◌, arith}
use Rattle.std.specs.Prelude.{filter_map, map}
use Rattle.std.specs.List.{range_with_len, cons_option}
use Rattle.std.proofs.lemmas.List.{map-append, append-nil}
use Rattle.std.proofs.lemmas.List.Elements.{filter_map-append}
use Rattle.std.proofs.lemmas.List.FromFn.{map-range_with_len_more}
use Rattle.symbols.specs.declared.kept_symbol.KeptSymbol.{KeptSymbol}
use Rattle.symbols.specs.declared.section.Section.{Section}
use Rattle.symbols.specs.Entries.{entry_at}
use Rattle.symbols.specs.Fields.{word_at}
use Rattle.symbols.specs.Format.{entry_size, section_header_size}
use Rattle.symbols.specs.Kept.{kept_symbols, symbol_in}
use Rattle.symbols.specs.Sections.{section_at}
use Rattle.symbols.specs.Symbol.{Symbol}
use Rattle.symbols.specs.Symbols.{symbol_of}

-- the first section headers of a file
unfoldable pub sections_before : List ℕ → ℕ → List Section
sections_before file count = map (λ row. section_at file (word_at file 32 + section_header_size * row)) (range_with_len 0 count)

pub sections_before-more : (file : List ℕ) (count : ℕ) → sections_before file (count + 1) ≡ sections_before file count ++ section_at file (word_at file 32 + section_header_size * count) ∷ []
unfolding sections_before
sections_before-more file count = map-range_with_len_more (λ row. section_at file (word_at file 32 + section_header_size * row)) 0 count count (omega arith)

-- the symbols of a type that the first entries of a table describe
unfoldable pub symbols_before : List ℕ → List ℕ → ℕ → ℕ → List Symbol
symbols_before strings table type count = filter_map (symbol_of strings type) (map (λ row. entry_at table (entry_size * row)) (range_with_len 0 count))

pub symbols_before-more : (strings table : List ℕ) (type count : ℕ) → symbols_before strings table type (count + 1) ≡ symbols_before strings table type count ++ cons_option (symbol_of strings type (entry_at table (entry_size * count))) []
unfolding symbols_before
symbols_before-more strings table type count =
    ap (filter_map (symbol_of strings type)) (map-range_with_len_more (λ row. entry_at table (entry_size * row)) 0 count count (omega arith))
    ∙ filter_map-append (symbol_of strings type) (map (λ row. entry_at table (entry_size * row)) (range_with_len 0 count)) (entry_at table (entry_size * count) ∷ [])

-- one more symbol is kept
pub kept_symbols-push : (strings : List ℕ) (kept : List KeptSymbol) (symbol : KeptSymbol) → kept_symbols strings (kept ++ symbol ∷ []) ≡ kept_symbols strings kept ++ symbol_in strings symbol ∷ []
unfolding kept_symbols
kept_symbols-push strings kept symbol = map-append (symbol_in strings) kept (symbol ∷ [])

-- an entry whose symbol is kept
pub row_kept : (strings table : List ℕ) (type row : ℕ) (kept : List KeptSymbol) (symbol : KeptSymbol) → kept_symbols strings kept ≡ symbols_before strings table type row → Some (symbol_in strings symbol) ≡ symbol_of strings type (entry_at table (entry_size * row)) → kept_symbols strings (kept ++ symbol ∷ []) ≡ symbols_before strings table type (row + 1)
row_kept strings table type row kept symbol before is =
    kept_symbols-push strings kept symbol
    ∙ ap (λ (symbols : List Symbol). symbols ++ symbol_in strings symbol ∷ []) before
    ∙ ap (λ (o : Option Symbol). symbols_before strings table type row ++ cons_option o []) is
    ∙ sym (symbols_before-more strings table type row)

-- and one that has none
pub row_left_out : (strings table : List ℕ) (type row : ℕ) (kept : List KeptSymbol) → kept_symbols strings kept ≡ symbols_before strings table type row → None ≡ symbol_of strings type (entry_at table (entry_size * row)) → kept_symbols strings kept ≡ symbols_before strings table type (row + 1)
row_left_out strings table type row kept before is =
    before
    ∙ sym (append-nil (symbols_before strings table type row))
    ∙ ap (λ (o : Option Symbol). symbols_before strings table type row ++ cons_option o []) is
    ∙ sym (symbols_before-more strings table type row)
