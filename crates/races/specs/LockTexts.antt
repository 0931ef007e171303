-- The lines of faults of the order of locks, and of misuse.
use Rattle.std.specs.Prelude.{ℕ, Option, Some, None, List, [], ◌++◌, codes, decimal}
use Rattle.symbols.specs.Covering.{NamedPlace, place_at}
use Rattle.symbols.specs.Symbol.{SymbolLists}
use Rattle.text_output.specs.Digits.{hexadecimal}
use Rattle.races.specs.Texts.{name_text}
use Rattle.races.specs.declared.hint_kind.HintKind.{HintKind}
use Rattle.races.specs.declared.hint_kind.HintKind.TheVariants.{UnlockOfAnothers, UnlockOfFree, EndWithLock, DestroyOfHeld, DestroyOfWaited, WaitWithoutLock, WaitWithAnother, TakenTwice, WriteByReader}
use Rattle.races.specs.declared.library_call.LibraryCall.{LibraryCall}
use Rattle.races.specs.declared.misuse.Misuse.{Misuse}
use Rattle.races.specs.declared.order_fault.OrderFault.{OrderFault}

-- a place after the name of its field; if no symbol covers it, its address after that of another
unfoldable pub place_or_text : List ℕ → Option NamedPlace → List ℕ → (address : ℕ) → List ℕ
place_or_text field None bare address = bare ++ hexadecimal 8 address
place_or_text field (Some place) bare address = field ++ name_text place.name ++ codes "+" ++ decimal place.offset

-- a time: the turn, and how many instructions the thread executed in it before
unfoldable pub time_text : List ℕ → LibraryCall → List ℕ
time_text name call = name ++ decimal call.turn ++ codes "+" ++ decimal call.instruction

-- a call of a library
unfoldable pub call_text : SymbolLists → LibraryCall → List ℕ
call_text symbols call = codes " thread=" ++ decimal call.thread ++ time_text (codes " turn=") call ++ place_or_text (codes " in=") (place_at symbols.functions call.pc) (codes " pc=") call.pc

-- a lock of a fault
unfoldable pub lock_text : SymbolLists → ℕ → List ℕ
lock_text symbols object = place_or_text (codes " ") (place_at symbols.objects object) (codes " address=") object

-- the line of a fault: the first thread holds the first lock and takes the second one
unfoldable pub order_text : SymbolLists → OrderFault → List ℕ
order_text symbols fault = codes "order" ++ lock_text symbols fault.held ++ lock_text symbols fault.taken ++ call_text symbols fault.first ++ call_text symbols fault.second ++ codes "\n"

-- the name of a kind of misuse; the other kinds are none
unfoldable pub misuse_name : HintKind → List ℕ
misuse_name UnlockOfAnothers = codes "unlock-of-anothers"
misuse_name UnlockOfFree = codes "unlock-of-free"
misuse_name EndWithLock = codes "end-with-lock"
misuse_name DestroyOfHeld = codes "destroy-of-held"
misuse_name DestroyOfWaited = codes "destroy-of-waited"
misuse_name WaitWithoutLock = codes "wait-without-lock"
misuse_name WaitWithAnother = codes "wait-with-another"
misuse_name TakenTwice = codes "taken-twice"
misuse_name WriteByReader = codes "write-by-reader"
misuse_name kind = codes "other"

-- the object of a misuse
unfoldable pub object_text : SymbolLists → ℕ → List ℕ
object_text symbols object = place_or_text (codes " object=") (place_at symbols.objects object) (codes " address=") object

-- who holds it, nothing if nobody does
unfoldable pub holder_text : Option LibraryCall → List ℕ
holder_text None = []
holder_text (Some call) = codes " held-by thread=" ++ decimal call.thread ++ time_text (codes " since=") call

-- the line of a misuse
unfoldable pub misuse_text : SymbolLists → Misuse → List ℕ
misuse_text symbols misuse = codes "misuse " ++ misuse_name misuse.kind ++ object_text symbols misuse.object ++ call_text symbols misuse.call ++ holder_text misuse.holder ++ codes "\n"
