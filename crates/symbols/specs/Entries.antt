-- The entries of a symbol table.
use Rattle.std.specs.Prelude.{ℕ, ◌+◌, ◌*◌, ◌/◌, List, length, map, slice_index}
use Rattle.std.specs.List.{range_with_len}
use Rattle.symbols.specs.declared.entry.Entry.{Entry}
use Rattle.symbols.specs.Fields.{half_at, word_at}
use Rattle.symbols.specs.Format.{entry_size}

-- the entry at an offset (System V ABI, Symbol Table)
unfoldable pub entry_at : List ℕ → ℕ → Entry
entry_at table offset =
    record {
      st_name = word_at table offset;
      st_value = word_at table (offset + 4);
      st_size = word_at table (offset + 8);
      st_info = slice_index table (offset + 12);
      st_shndx = half_at table (offset + 14);
    }

-- the whole entries of a table
unfoldable pub entries_of : List ℕ → List Entry
entries_of table = map (λ row. entry_at table (entry_size * row)) (range_with_len 0 (length table / entry_size))
