-- A memory with marks: a marked access is one that it doesn't permit.
use Rattle.std.specs.Prelude.{◌≡◌, ℕ, zero, suc, ◌+◌, ◌*◌, ◌/◌, ◌%◌, ◌^◌, ◌≤◌, Bool, true, false, not, ◌&&◌, ◌||◌, ◌==◌, if◌then◌else◌, nat_le, nat_lt, List, length, Option, Some, None, option_map}
use Rattle.std.specs.List.{list_any}
use Rattle.decoded_code.specs.declared.code_slice.CodeSlice.{CodeSlice}
use Rattle.guest_memory.specs.Memory.{Memory}
use Rattle.guest_memory.specs.declared.perm.Perm.{Perm}
use Rattle.marked_memory.specs.declared.fence.Fence.{Fence}
use Rattle.marked_memory.specs.declared.marks.Marks.{Marks}
use Rattle.marked_memory.specs.declared.watch.Watch.{Watch}
use Rattle.marked_memory.specs.declared.watch.WatchKind.{WatchKind}
use Rattle.marked_memory.specs.declared.watch.WatchKind.TheVariants.{Store, Load, Access}

-- what is looked for: the addresses of instructions, and the ranges of loads and stores
pub record Places : Type 0 where
  pub breakpoints : List ℕ
  pub watches : List Watch
  pub fence : Option Fence

abbrev pub places_of : Marks → Places
places_of marks = record { breakpoints = marks.breakpoints.now; watches = marks.watches.now; fence = None }

-- the same, with a fence around some code, outside of which each instruction is marked
abbrev pub fenced : Option Fence → Places → Places
fenced fence places = record places { fence = fence }

-- whether an address is outside of a fence
abbrev pub is_beyond : Fence → ℕ → Bool
is_beyond fence address = nat_lt address fence.start || nat_le fence.end address

abbrev pub is_outside : Option Fence → ℕ → Bool
is_outside None address = false
is_outside (Some fence) address = is_beyond fence address

-- whether an address is one of the four of an instruction
abbrev pub covers : ℕ → ℕ → Bool
covers address breakpoint = nat_le breakpoint address && nat_lt address (breakpoint + 4)

abbrev pub is_marked_by : List ℕ → ℕ → Bool
is_marked_by breakpoints address = list_any (covers address) breakpoints

abbrev pub looks_for_stores : WatchKind → Bool
looks_for_stores Store = true
looks_for_stores Load = false
looks_for_stores Access = true

abbrev pub looks_for_loads : WatchKind → Bool
looks_for_loads Store = false
looks_for_loads Load = true
looks_for_loads Access = true

-- whether an address is in a watched range
abbrev pub has : Watch → ℕ → Bool
has watch address = nat_le watch.start address && nat_lt address (watch.start + watch.len)

-- whether an address is one of the four of a marked instruction
unfoldable pub is_fetch_marked : Places → ℕ → Bool
is_fetch_marked places address = is_outside places.fence address || is_marked_by places.breakpoints address

unfoldable pub is_load_marked : List Watch → ℕ → Bool
is_load_marked watches address = list_any (λ watch. looks_for_loads watch.kind && has watch address) watches

unfoldable pub is_store_marked : List Watch → ℕ → Bool
is_store_marked watches address = list_any (λ watch. looks_for_stores watch.kind && has watch address) watches

-- whether one of so many addresses is marked, from one on
unfoldable pub any_marked : (ℕ → Bool) → ℕ → ℕ → Bool
any_marked is_marked zero address = false
any_marked is_marked (suc count) address = is_marked address || any_marked is_marked count (address + 1)

-- what an address permits where its marks are not permitted
abbrev pub marked_perm : Places → ℕ → Perm → Perm
marked_perm places address perm =
    record {
      read = perm.read && not (is_load_marked places.watches address);
      write = perm.write && not (is_store_marked places.watches address);
      execute = perm.execute && not (is_fetch_marked places address);
    }

-- the memory with these marks
unfoldable pub marked : Places → Memory → Memory
marked places memory address = option_map (λ cell. record { perm = marked_perm places address cell.perm; byte = cell.byte }) (memory address)

-- what stores never change: the marks of an address x, kept at 2 * x + 1, and what stores below never change, at 2 * x
unfoldable pub kept : Places → Memory → Memory
kept places below address =
    if address % 2 == 0 then below (address / 2)
    else
    Some (record {
      perm = record { read = is_load_marked places.watches (address / 2); write = is_store_marked places.watches (address / 2); execute = is_fetch_marked places (address / 2) };
      byte = 0;
    })

-- decoded code begins at the address of a word, and ends within the memory
pub record IsInMemory (code : CodeSlice) : Type 0 where
  pub aligned : code.start % 4 ≡ 0
  pub fits : code.start + 4 * length code.entries.now ≤ 2 ^ 32
