-- Which symbol names an address.
use Rattle.std.specs.Prelude.{◌≡◌, ℕ, ◌+◌, ◌-◌, Bool, ◌&&◌, ◌||◌, ◌==◌, not, nat_lt, nat_le, if◌then◌else◌, Option, Some, None, option_map, List, [], filter, length, slice_get}
use Rattle.std.specs.List.{IsFirstBest, reduce}
use Rattle.symbols.specs.declared.symbol_offset.SymbolOffset.{SymbolOffset}
use Rattle.symbols.specs.Symbol.{Symbol}

-- whether a symbol covers an address
abbrev pub covers : ℕ → Symbol → Bool
covers address symbol = nat_le symbol.value address && nat_lt address (symbol.value + symbol.size)

-- whether a symbol goes before another one: the smaller one, and of one size a global one before one that is not
abbrev pub is_before : Symbol → Symbol → Bool
is_before symbol other =
    nat_lt symbol.size other.size || (symbol.size == other.size && (symbol.is_global && not other.is_global))

-- of an earlier and a later symbol of the table the one that goes before the other, or the earlier one
abbrev pub first_of_two : Symbol → Symbol → Symbol
first_of_two earlier later = if is_before later earlier then later else earlier

-- the symbol that covers an address, the first one of those that do
unfoldable pub covering : List Symbol → ℕ → Option Symbol
covering symbols address = reduce first_of_two (filter (covers address) symbols)

-- A symbol is the first of some: none of them goes before it, and it goes before those at earlier places. Of none there is no first.
abbrev pub IsFirstOf : List Symbol → Option Symbol → Type 0
IsFirstOf symbols None = symbols ≡ []
IsFirstOf symbols (Some symbol) =
    (place : ℕ) × IsFirstBest is_before symbols (length symbols) place × (slice_get symbols place ≡ Some symbol)

-- a name, and how many bytes after its symbol's first one an address is
pub record NamedPlace : Type 0 where
  pub name : List ℕ
  pub offset : ℕ

-- what is told of an address
abbrev pub told : SymbolOffset → NamedPlace
told place = record { name = place.name.now; offset = place.offset }

-- what an address is called
unfoldable pub place_at : List Symbol → ℕ → Option NamedPlace
place_at symbols address =
    option_map (λ symbol. record { name = symbol.name; offset = address - symbol.value }) (covering symbols address)
