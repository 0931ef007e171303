-- The text of a race.
use Rattle.std.specs.Prelude.{ℕ, ◌+◌, ◌*◌, ◌%◌, ◌^◌, ◌==◌, if◌then◌else◌, nat_lt, Option, Some, None, List, [], ◌++◌, codes, decimal, map}
use Rattle.symbols.specs.Covering.{NamedPlace, place_at}
use Rattle.symbols.specs.Symbol.{SymbolLists}
use Rattle.text_output.specs.Digits.{hexadecimal}
use Rattle.races.specs.declared.byte_set.ByteSet.{ByteSet}
use Rattle.races.specs.declared.race.Race.{Race}
use Rattle.races.specs.declared.site.Site.{Site}

-- the lowest place of a byte
abbrev pub lowest : ByteSet → ℕ
lowest bytes = if bytes.first then 0 else if bytes.second then 1 else if bytes.third then 2 else 3

-- how many bytes there are
abbrev pub size_of : ByteSet → ℕ
size_of bytes = (if bytes.first then 1 else 0) + (if bytes.second then 1 else 0) + (if bytes.third then 1 else 0) + (if bytes.fourth then 1 else 0)

-- the address of a race's lowest byte
abbrev pub address_of : Race → ℕ
address_of race = (race.word * 4 + lowest race.bytes) % 2 ^ 32

-- an access
unfoldable pub site_text : Site → List ℕ
site_text site =
    (if site.is_store then codes " store" else codes " load") ++ codes " thread=" ++ decimal site.thread ++ codes " turn=" ++ decimal site.turn ++ codes "+" ++ decimal site.instruction
    ++ codes " pc=" ++ hexadecimal 8 site.pc

-- which bytes race
unfoldable pub bytes_text : Race → List ℕ
bytes_text race = codes "race address=" ++ hexadecimal 8 (address_of race) ++ codes " bytes=" ++ decimal (size_of race.bytes)

-- a symbol's name; a byte that is no ASCII is a question mark
unfoldable pub name_text : List ℕ → List ℕ
name_text name = map (λ byte. if nat_lt byte 128 then byte else 63) name

-- a place after the name of its field, nothing if there is none
unfoldable pub place_text : List ℕ → Option NamedPlace → List ℕ
place_text field None = []
place_text field (Some place) = field ++ name_text place.name ++ codes "+" ++ decimal place.offset

-- the object of the lowest byte, and the functions of both instructions
unfoldable pub names_text : SymbolLists → Race → List ℕ
names_text symbols race =
    place_text (codes " object=") (place_at symbols.objects (address_of race)) ++ place_text (codes " in=") (place_at symbols.functions race.first.pc)
    ++ place_text (codes " in=") (place_at symbols.functions race.second.pc)

-- the line of a race
unfoldable pub race_text : SymbolLists → Race → List ℕ
race_text symbols race = bytes_text race ++ site_text race.first ++ site_text race.second ++ names_text symbols race ++ codes "\n"

-- how many lines were left out, if any were
unfoldable pub left_text : ℕ → List ℕ
left_text count = if count == 0 then [] else codes "left out=" ++ decimal count ++ codes "\n"
