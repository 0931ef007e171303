-- The call table: each call's number and name, and what it does besides its answer.
use Rattle.std.specs.Prelude.{ℕ, Bool, true, false, ◌==◌, Option, Some, None, List, [], ◌∷◌, codes, find}
use Rattle.abi.specs.declared.call.Call.{Call}
use Rattle.abi.specs.declared.call.Call.TheVariants as call
use Rattle.abi.specs.declared.call_kind.CallKind.{CallKind}
use Rattle.abi.specs.declared.call_kind.CallKind.TheVariants.{Exit, ThreadExit, Create, Join, Lock, Unlock, Wait, Signal, Broadcast, Barrier, Write, Read, Memory, Sync, Release}
use Rattle.abi.specs.declared.memory_use.MemoryUse.{MemoryUse}
use Rattle.abi.specs.declared.memory_use.MemoryUse.TheVariants.{Unused, Maps}
use Rattle.abi.specs.declared.memory_use.MemoryUse.TheVariants as memory
use Rattle.abi.specs.declared.reply.Reply.{Reply}
use Rattle.abi.specs.declared.reply.Reply.TheVariants.{Completed}
use Rattle.abi.specs.declared.reply.Reply.TheVariants as reply
use Rattle.abi.specs.declared.touched.Touched.{Touched}
use Rattle.abi.specs.declared.touched.Touched.TheVariants.{Nothing, Loads, Stores}

-- what may become of the thread that makes a call: it goes on; it goes on, or it waits until another thread lets it go; it ends; the run ends
pub data CallerFate : Type 0 where
  GoesOn : CallerFate
  MayWait : CallerFate
  Ends : CallerFate
  EndsRun : CallerFate

-- a row of the table
pub record Row : Type 0 where
  pub number : ℕ
  pub name : List ℕ
  -- how many arguments the call has, from x10 on
  pub arguments : ℕ
  -- what may become of its caller
  pub fate : CallerFate
  -- whether other threads may have a turn by it that had none
  pub lets_go : Bool
  -- what it does in the memory of the guest
  pub memory : MemoryUse

abbrev pub row : ℕ → List ℕ → ℕ → CallerFate → Bool → MemoryUse → Row
row number name arguments fate lets_go memory = record { number = number; name = name; arguments = arguments; fate = fate; lets_go = lets_go; memory = memory }

-- the table
abbrev pub row_of : CallKind → Row
row_of Exit = row 1 (codes "exit") 1 EndsRun false Unused
row_of ThreadExit = row 2 (codes "thread_exit") 1 Ends true Unused
row_of Create = row 3 (codes "create") 3 GoesOn true Unused
row_of Join = row 4 (codes "join") 1 MayWait false Unused
row_of Lock = row 5 (codes "lock") 1 GoesOn false Unused
row_of Unlock = row 6 (codes "unlock") 1 GoesOn false Unused
row_of Wait = row 7 (codes "wait") 2 MayWait false Unused
row_of Signal = row 8 (codes "signal") 1 GoesOn true Unused
row_of Broadcast = row 9 (codes "broadcast") 1 GoesOn true Unused
row_of Barrier = row 10 (codes "barrier") 2 MayWait true Unused
row_of Write = row 11 (codes "write") 2 GoesOn false memory.Loads
row_of Read = row 12 (codes "read") 2 GoesOn false memory.Stores
row_of Memory = row 13 (codes "memory") 1 GoesOn false Maps
row_of Sync = row 14 (codes "sync") 0 GoesOn false Unused
row_of Release = row 15 (codes "release") 2 GoesOn false Maps

-- the number of a call
abbrev pub number_of : CallKind → ℕ
number_of kind = (row_of kind).number

-- the name of a call
abbrev pub name_of : CallKind → List ℕ
name_of kind = (row_of kind).name

-- all calls
abbrev pub kinds : List CallKind
kinds =
    Exit ∷ ThreadExit ∷ Create ∷ Join ∷ Lock ∷ Unlock ∷ Wait ∷ Signal ∷ Broadcast ∷ Barrier ∷ Write ∷ Read ∷ Memory ∷ Sync ∷ Release ∷ []

-- the call with a number, none where no call has it
unfoldable pub kind_of : ℕ → Option CallKind
kind_of number = find (λ kind. number_of kind == number) kinds

-- whether the call with a number ends the run
abbrev pub ends_run : ℕ → Bool
ends_run number = number == number_of Exit

-- what the table says of a call, and of one that it hasn't: that one is answered with a code alone
abbrev pub fate_of : Option CallKind → CallerFate
fate_of None = GoesOn
fate_of (Some kind) = (row_of kind).fate

abbrev pub lets_go : Option CallKind → Bool
lets_go None = false
lets_go (Some kind) = (row_of kind).lets_go

abbrev pub memory_use : Option CallKind → MemoryUse
memory_use None = Unused
memory_use (Some kind) = (row_of kind).memory

abbrev pub argument_count : Option CallKind → ℕ
argument_count None = 0
argument_count (Some kind) = (row_of kind).arguments

abbrev pub may_wait : CallerFate → Bool
may_wait GoesOn = false
may_wait MayWait = true
may_wait Ends = false
may_wait EndsRun = false

-- whether a call by which such may become of its caller may come to a reply
abbrev pub may_reply : CallerFate → Reply → Bool
may_reply GoesOn (Completed code value) = true
may_reply GoesOn reply.Waits = false
may_reply GoesOn reply.Ends = false
may_reply MayWait (Completed code value) = true
may_reply MayWait reply.Waits = true
may_reply MayWait reply.Ends = false
may_reply Ends (Completed code value) = false
may_reply Ends reply.Waits = false
may_reply Ends reply.Ends = true
may_reply EndsRun (Completed code value) = false
may_reply EndsRun reply.Waits = false
may_reply EndsRun reply.Ends = true

abbrev pub is_run_end : CallerFate → Bool
is_run_end GoesOn = false
is_run_end MayWait = false
is_run_end Ends = false
is_run_end EndsRun = true

-- whether memory used so is changed
abbrev pub is_change : MemoryUse → Bool
is_change Unused = false
is_change memory.Loads = false
is_change memory.Stores = true
is_change Maps = true

-- the kind of a call with its arguments
abbrev pub kind_in : Call → Option CallKind
kind_in (call.Exit status) = Some Exit
kind_in (call.ThreadExit value) = Some ThreadExit
kind_in (call.Create entry argument stack_pointer) = Some Create
kind_in (call.Join thread) = Some Join
kind_in (call.Lock mutex) = Some Lock
kind_in (call.Unlock mutex) = Some Unlock
kind_in (call.Wait condition mutex) = Some Wait
kind_in (call.Signal condition) = Some Signal
kind_in (call.Broadcast condition) = Some Broadcast
kind_in (call.Barrier barrier count) = Some Barrier
kind_in (call.Write address length) = Some Write
kind_in (call.Read address length) = Some Read
kind_in (call.Memory pages) = Some Memory
kind_in call.Sync = Some Sync
kind_in (call.Release address pages) = Some Release
kind_in (call.Unknown number) = None

-- the arguments of a call, in their order
abbrev pub arguments_in : Call → List ℕ
arguments_in (call.Exit status) = status ∷ []
arguments_in (call.ThreadExit value) = value ∷ []
arguments_in (call.Create entry argument stack_pointer) = entry ∷ argument ∷ stack_pointer ∷ []
arguments_in (call.Join thread) = thread ∷ []
arguments_in (call.Lock mutex) = mutex ∷ []
arguments_in (call.Unlock mutex) = mutex ∷ []
arguments_in (call.Wait condition mutex) = condition ∷ mutex ∷ []
arguments_in (call.Signal condition) = condition ∷ []
arguments_in (call.Broadcast condition) = condition ∷ []
arguments_in (call.Barrier barrier count) = barrier ∷ count ∷ []
arguments_in (call.Write address length) = address ∷ length ∷ []
arguments_in (call.Read address length) = address ∷ length ∷ []
arguments_in (call.Memory pages) = pages ∷ []
arguments_in call.Sync = []
arguments_in (call.Release address pages) = address ∷ pages ∷ []
arguments_in (call.Unknown number) = []

-- the bytes of the guest's memory that a call loads or stores at most
abbrev pub touched_in : Call → Touched
touched_in (call.Exit status) = Nothing
touched_in (call.ThreadExit value) = Nothing
touched_in (call.Create entry argument stack_pointer) = Nothing
touched_in (call.Join thread) = Nothing
touched_in (call.Lock mutex) = Nothing
touched_in (call.Unlock mutex) = Nothing
touched_in (call.Wait condition mutex) = Nothing
touched_in (call.Signal condition) = Nothing
touched_in (call.Broadcast condition) = Nothing
touched_in (call.Barrier barrier count) = Nothing
touched_in (call.Write address length) = Loads address length
touched_in (call.Read address length) = Stores address length
touched_in (call.Memory pages) = Nothing
touched_in call.Sync = Nothing
touched_in (call.Release address pages) = Nothing
touched_in (call.Unknown number) = Nothing

-- what the table says of these bytes
abbrev pub is_use_of : Touched → MemoryUse → Bool
is_use_of Nothing Unused = true
is_use_of Nothing memory.Loads = false
is_use_of Nothing memory.Stores = false
is_use_of Nothing Maps = true
is_use_of (Loads address length) Unused = false
is_use_of (Loads address length) memory.Loads = true
is_use_of (Loads address length) memory.Stores = false
is_use_of (Loads address length) Maps = false
is_use_of (Stores address length) Unused = false
is_use_of (Stores address length) memory.Loads = false
is_use_of (Stores address length) memory.Stores = true
is_use_of (Stores address length) Maps = false

-- the thread whose end a call waits for, none if it waits for no thread's
abbrev pub joined_in : Call → Option ℕ
joined_in (call.Exit status) = None
joined_in (call.ThreadExit value) = None
joined_in (call.Create entry argument stack_pointer) = None
joined_in (call.Join thread) = Some thread
joined_in (call.Lock mutex) = None
joined_in (call.Unlock mutex) = None
joined_in (call.Wait condition mutex) = None
joined_in (call.Signal condition) = None
joined_in (call.Broadcast condition) = None
joined_in (call.Barrier barrier count) = None
joined_in (call.Write address length) = None
joined_in (call.Read address length) = None
joined_in (call.Memory pages) = None
joined_in call.Sync = None
joined_in (call.Release address pages) = None
joined_in (call.Unknown number) = None
