-- Why a motion halts at a position: what is looked at there, one after another.
use Rattle.std.specs.Prelude.{◌≡◌, ◌⊎◌, ℕ, ◌+◌, Bool, true, false, not, ◌==◌, ◌&&◌, ◌||◌, nat_le, nat_lt, if◌then◌else◌, length, Option, Some, None, option_map, option_and_then, List, [], ◌∷◌}
use Rattle.std.specs.List.{list_any}
use Rattle.guest_memory.specs.Memory.{Memory, fetched}
use Rattle.decoder.specs.Decoding.{decoded}
use Rattle.decoder.specs.declared.instr.Instr.{Instr}
use Rattle.decoder.specs.declared.instr.Instr.TheVariants.{Ecall, Ebreak}
use Rattle.hart.specs.Accesses.{access_of}
use Rattle.hart.specs.HartState.{HartState}
use Rattle.hart.specs.declared.memory_access.MemoryAccess.{MemoryAccess}
use Rattle.marked_memory.specs.Marks.{looks_for_loads, looks_for_stores}
use Rattle.marked_memory.specs.declared.watch.Watch.{Watch}
use Rattle.timeline.specs.declared.halt.Halt.{Halt}
use Rattle.timeline.specs.declared.halt.Halt.TheVariants.{Breakpoint, Watched, Arrived, End}
use Rattle.timeline.specs.declared.stops.Arrival.{Arrival}
use Rattle.timeline.specs.declared.stops.Stops.{Stops}

-- what a motion halts for
pub record Wanted : Type 0 where
  pub breakpoints : List ℕ
  pub watches : List Watch
  pub arrival : Option Arrival
  pub alone : Option ℕ
  pub known : Option ℕ

abbrev pub wanted_by : Stops → Wanted
wanted_by stops = record { breakpoints = stops.breakpoints.now; watches = stops.watches.now; arrival = stops.arrival; alone = stops.alone; known = stops.known_threads }

-- nothing
abbrev pub nothing : Wanted
nothing = record { breakpoints = []; watches = []; arrival = None; alone = None; known = None }

-- the next instruction, none where there is none that can be executed
abbrev pub next_instr : HartState → Memory → Option Instr
next_instr hart memory = option_and_then decoded (fetched memory hart.pc)

abbrev pub next_access : HartState → Memory → Option MemoryAccess
next_access hart memory = option_and_then (access_of hart) (next_instr hart memory)

-- whether an access touches a byte of a watched range
abbrev pub touches : MemoryAccess → Watch → Bool
touches access watch =
    nat_lt 0 access.width && nat_lt 0 watch.len && nat_lt watch.start (access.address + access.width) && nat_lt access.address (watch.start + watch.len)

abbrev pub is_seen : MemoryAccess → Watch → Bool
is_seen access watch = (if access.is_store then looks_for_stores watch.kind else looks_for_loads watch.kind) && touches access watch

-- the place of the first that passes, counted from one on
unfoldable pub first_from : (Watch → Bool) → ℕ → List Watch → Option ℕ
first_from passes place [] = None
first_from passes place (watch ∷ watches) = if passes watch then Some place else first_from passes (place + 1) watches

abbrev pub first_place : (Watch → Bool) → List Watch → Option ℕ
first_place passes watches = first_from passes 0 watches

-- the watch event of the next instruction's load or store
abbrev pub access_event : List Watch → Option MemoryAccess → Option Halt
access_event watches None = None
access_event watches (Some access) = option_map Watched (first_place (is_seen access) watches)

-- what an instruction is waited for by its address

abbrev pub is_breakpoint : List ℕ → ℕ → Bool
is_breakpoint breakpoints pc = list_any (λ breakpoint. breakpoint == pc) breakpoints

abbrev pub arrives : Option Arrival → ℕ → ℕ → Bool
arrives None thread pc = false
arrives (Some arrival) thread pc = (thread == arrival.thread) && not (nat_le arrival.start pc && nat_lt pc arrival.end)

-- whether an instruction of a thread is waited for
abbrev pub waits : Option Arrival → ℕ → Bool
waits None thread = false
waits (Some arrival) thread = arrival.thread == thread

-- whether it may halt at an instruction of a thread for what that is
abbrev pub asks : Wanted → ℕ → Bool
asks wanted thread = waits wanted.arrival thread || not (length wanted.breakpoints == 0) || not (length wanted.watches == 0)

-- why it halts at an instruction of a thread by the instruction's address
unfoldable pub address_halt : Wanted → ℕ → ℕ → Option Halt
address_halt wanted thread pc =
    if is_breakpoint wanted.breakpoints pc then Some Breakpoint else (if arrives wanted.arrival thread pc then Some Arrived else None)

-- whether another thread than this one may move alone
abbrev pub forbids : Option ℕ → ℕ → Bool
forbids None thread = false
forbids (Some alone) thread = not (alone == thread)

-- whether more threads are created than were known
abbrev pub has_more : Option ℕ → ℕ → Bool
has_more None created = false
has_more (Some known) created = nat_lt known created

-- an instruction, or EBREAK in the place of none
abbrev pub IsInstr : Option Instr → Option Instr → Type 0
IsInstr found None = (found ≡ None) ⊎ (found ≡ Some Ebreak)
IsInstr found (Some instr) = found ≡ Some instr

abbrev pub is_call : Option Instr → Bool
is_call (Some Ecall) = true
is_call _ = false

-- whether an ecall comes next that the bound allows
abbrev pub calls_next : ℕ → ℕ → HartState → Memory → Bool
calls_next left steps hart memory = nat_lt steps left && is_call (next_instr hart memory)

abbrev pub first_of : Option Halt → Option Halt → Option Halt
first_of None other = other
first_of (Some halt) other = Some halt

-- or the end
abbrev pub told_or_end : Option Halt → Halt
told_or_end None = End
told_or_end (Some halt) = halt

-- why it halts at an instruction of a thread for what that is
abbrev pub instruction_halt : Wanted → ℕ → HartState → Memory → Option Halt
instruction_halt wanted thread hart memory = first_of (address_halt wanted thread hart.pc) (access_event wanted.watches (next_access hart memory))
