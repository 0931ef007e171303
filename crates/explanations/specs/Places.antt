-- The function that an instruction is in.
use Rattle.std.specs.Prelude.{ℕ, if◌then◌else◌, nat_lt, Option, Some, None, List, [], ◌++◌, codes, decimal, map}
use Rattle.symbols.specs.Covering.{NamedPlace, place_at}
use Rattle.symbols.specs.Symbol.{SymbolLists}

-- a symbol's name; a byte that is no ASCII is a question mark
unfoldable pub name_text : List ℕ → List ℕ
name_text name = map (λ byte. if nat_lt byte 128 then byte else 63) name

-- a function and how many bytes after its first one, nothing if there is none
unfoldable pub place_text : Option NamedPlace → List ℕ
place_text None = []
place_text (Some place) = codes ", in " ++ name_text place.name ++ codes "+" ++ decimal place.offset

-- the function that covers an address, and the end of a line
unfoldable pub end_text : SymbolLists → ℕ → List ℕ
end_text symbols pc = place_text (place_at symbols.functions pc) ++ codes "\n"
