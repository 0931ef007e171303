use Rattle.std.specs.Prelude.{ℕ, ◌*◌, ◌==◌, List, [], map, filter}
use Rattle.std.specs.List.{enumerate_from, flat_map}
use Rattle.guest_memory.specs.Layout.{page_of, page_size}
use Rattle.token.specs.Change.{Change}
use Rattle.sharing_report.specs.declared.byte_change.ByteChange.{ByteChange}

-- the change of the byte at an address by a turn, which is told by its place in the list of turns; a page is told by the address of its first byte
abbrev pub byte_change : (turn : ℕ) → Change → (address : ℕ) → ByteChange
byte_change turn change address =
    record { turn = turn; phase = change.phase; thread = change.thread; address = address; page = page_of address * page_size }

-- the bytes that a turn changed
abbrev pub bytes_of_turn : (turn : ℕ) → Change → List ByteChange
bytes_of_turn turn change = map (byte_change turn change) change.addresses

-- the bytes that turns changed, once for each turn that changed them
unfoldable pub bytes_of : List Change → List ByteChange
bytes_of changes = flat_map (λ (turn, change). bytes_of_turn turn change) (enumerate_from 0 changes)

-- those of a page
unfoldable pub bytes_of_page : (page : ℕ) → List ByteChange → List ByteChange
bytes_of_page page = filter (λ byte. byte.page == page)

-- the change of the byte at an address by a turn of this phase and thread
abbrev pub byte_by : (turn phase thread address : ℕ) → ByteChange
byte_by turn phase thread address = byte_change turn (record { phase = phase; thread = thread; addresses = [] }) address

-- and those at some addresses
abbrev pub bytes_by : (turn phase thread : ℕ) → List ℕ → List ByteChange
bytes_by turn phase thread addresses = map (byte_by turn phase thread) addresses
