-- An instruction that isn't marked is one at which a motion doesn't halt.
use Rattle.std.proofs.Common.{◌≡◌, ◌∙◌, ℕ, zero, suc, ◌+◌, ◌-◌, ◌%◌, ◌<◌, Bool, true, false, ◌&&◌, ◌||◌, if◌then◌else◌, Option, Some, None, Result, Ok, Err, List, [], ◌∷◌, refl, sym, ap, arith}
use Rattle.std.proofs.lemmas.Bool.Decides.{nat_tests}
use Rattle.std.specs.List.{list_any}
use Rattle.std.specs.Prelude.{◌==◌, nat_le, nat_lt, is_some, ok_or, option_map, option_and_then}
use Rattle.guest_memory.specs.Memory.{Memory, fetched, loaded, number_at, permitted, stored, with_number}
use Rattle.guest_memory.specs.declared.fault.AccessFault.{AccessFault}
use Rattle.guest_memory.specs.declared.fault.AccessFault.TheVariants.{Misaligned, Denied}
use Rattle.decoder.specs.Decoding.{decoded}
use Rattle.decoder.specs.declared.instr.Instr.{Instr}
use Rattle.decoder.specs.declared.instr.Instr.TheVariants.{Lb, Lh, Lw, Lbu, Lhu, Sb, Sh, Sw, Ecall}
use Rattle.hart.specs.Accesses.{access_of}
use Rattle.hart.specs.HartState.{HartState}
use Rattle.hart.specs.Next.{Goes, decoded_word, executed, fetched_word, loads, next, stores, viewed}
use Rattle.marked_memory.specs.Marks.{Places, any_marked, has, is_fetch_marked, is_load_marked, is_store_marked, looks_for_loads, looks_for_stores, marked}
use Rattle.marked_memory.specs.Unmarked.{IsUnmarked}
use Rattle.marked_memory.specs.declared.watch.Watch.{Watch}
use Rattle.marked_memory.specs.declared.watch.WatchKind.{WatchKind}
use Rattle.marked_memory.proofs.Marking.{fetched_unless, marked_load, marked_store, stored_marked}
use Rattle.timeline.specs.Halts.{Wanted, access_event, address_halt, arrives, first_from, instruction_halt, is_breakpoint, is_call, is_seen, next_instr, touches, waits}
use Rattle.hart.specs.declared.memory_access.MemoryAccess.{MemoryAccess}
use Rattle.timeline.specs.declared.stops.Arrival.{Arrival}
use Rattle.timeline.specs.declared.halt.Halt.TheVariants.{Watched}

-- tests

pub first_false : (one other : Bool) → (one || other) ≡ false → one ≡ false
first_false true other is = is
first_false false other is = refl

pub other_false : (one other : Bool) → (one || other) ≡ false → other ≡ false
other_false true other is = absurd (cc)
other_false false other is = is

neither : (one other : Bool) → one ≡ false → other ≡ false → (one || other) ≡ false
neither true other first second = first
neither false other first second = second

unless_both : (one other : Bool) → (one ≡ true → other ≡ true → ⊥) → (one && other) ≡ false
unless_both true true never = absurd (never refl refl)
unless_both true false never = refl
unless_both false other never = refl

-- breakpoints

no_breakpoint : (breakpoints : List ℕ) (pc : ℕ) → list_any (λ breakpoint. nat_le breakpoint pc && nat_lt pc (breakpoint + 4)) breakpoints ≡ false → is_breakpoint breakpoints pc ≡ false
no_breakpoint [] pc is = refl
no_breakpoint (breakpoint ∷ breakpoints) pc is =
    let here = first_false (nat_le breakpoint pc && nat_lt pc (breakpoint + 4)) _ is in
    let rest = other_false (nat_le breakpoint pc && nat_lt pc (breakpoint + 4)) _ is in
    let other : (breakpoint == pc) ≡ false = grind (arith, nat_tests) in
    neither (breakpoint == pc) (is_breakpoint breakpoints pc) other (no_breakpoint breakpoints pc rest)

unmarked_address : (places : Places) (pc : ℕ) → any_marked (is_fetch_marked places) 4 pc ≡ false → is_breakpoint places.breakpoints pc ≡ false
unfolding any_marked is_fetch_marked
unmarked_address places pc is = no_breakpoint places.breakpoints pc (other_false _ _ (first_false _ _ is))

-- watched ranges

each_unmarked : (is_marked : ℕ → Bool) (count address k : ℕ) → any_marked is_marked count address ≡ false → k < count → is_marked (address + k) ≡ false
unfolding any_marked
each_unmarked is_marked zero address k is within = absurd (omega arith)
each_unmarked is_marked (suc count) address zero is within =
    let here : address + zero ≡ address = omega arith in rw here (first_false (is_marked address) (any_marked is_marked count (address + 1)) is)
each_unmarked is_marked (suc count) address (suc k) is within =
    let rest = other_false (is_marked address) (any_marked is_marked count (address + 1)) is in
    let there : address + suc k ≡ address + 1 + k = omega arith in
    rw there (each_unmarked is_marked count (address + 1) k rest (omega arith))

abbrev marked_by : (WatchKind → Bool) → List Watch → ℕ → Bool
marked_by looks watches x = list_any (λ watch. looks watch.kind && has watch x) watches

first_touched : (access : MemoryAccess) (watch : Watch) → touches access watch ≡ true → (k : ℕ) × (k < access.width) × (has watch (access.address + k) ≡ true)
first_touched access watch is =
    let start = watch.start - access.address in
    let within : start < access.width = grind (arith, nat_tests) in
    let there : has watch (access.address + start) ≡ true = grind (arith, nat_tests) in
    (start, within, there)

unseen_here : (looks : WatchKind → Bool) (watch : Watch) (watches : List Watch) (access : MemoryAccess)
    → ((k : ℕ) → k < access.width → marked_by looks (watch ∷ watches) (access.address + k) ≡ false) → (looks watch.kind && touches access watch) ≡ false
unseen_here looks watch watches access each =
    unless_both (looks watch.kind) (touches access watch)
    (λ looked touched.
    let at = first_touched access watch touched in
    let none = first_false (looks watch.kind && has watch (access.address + at.0)) (marked_by looks watches (access.address + at.0)) (each at.0 at.1) in
    let both : (looks watch.kind && has watch (access.address + at.0)) ≡ true = rw (looked, at.2) refl in
    cc)

unseen : (looks : WatchKind → Bool) (watches : List Watch) (access : MemoryAccess)
    → ((k : ℕ) → k < access.width → marked_by looks watches (access.address + k) ≡ false) → list_any (λ watch. looks watch.kind && touches access watch) watches ≡ false
unseen looks [] access each = refl
unseen looks (watch ∷ watches) access each =
    neither (looks watch.kind && touches access watch) (list_any (λ watch. looks watch.kind && touches access watch) watches)
    (unseen_here looks watch watches access each)
    (unseen looks watches access (λ k within. other_false (looks watch.kind && has watch (access.address + k)) (marked_by looks watches (access.address + k)) (each k within)))

none_first : (passes : Watch → Bool) (place : ℕ) (watches : List Watch) → list_any passes watches ≡ false → first_from passes place watches ≡ None
unfolding first_from
none_first passes place [] is = refl
none_first passes place (watch ∷ watches) is =
    rw (first_false (passes watch) (list_any passes watches) is) (none_first passes (place + 1) watches (other_false (passes watch) (list_any passes watches) is))

unseen_load : (places : Places) (address width : ℕ) → any_marked (is_load_marked places.watches) width address ≡ false
    → access_event places.watches (Some (record { address = address; width = width; is_store = false })) ≡ None
unfolding is_load_marked
unseen_load places address width is =
    let access : MemoryAccess = record { address = address; width = width; is_store = false } in
    ap (option_map Watched) (none_first (is_seen access) 0 places.watches (unseen looks_for_loads places.watches access (λ k within. each_unmarked (is_load_marked places.watches) width address k is within)))

unseen_store : (places : Places) (address width : ℕ) → any_marked (is_store_marked places.watches) width address ≡ false
    → access_event places.watches (Some (record { address = address; width = width; is_store = true })) ≡ None
unfolding is_store_marked
unseen_store places address width is =
    let access : MemoryAccess = record { address = address; width = width; is_store = true } in
    ap (option_map Watched) (none_first (is_seen access) 0 places.watches (unseen looks_for_stores places.watches access (λ k within. each_unmarked (is_store_marked places.watches) width address k is within)))

-- an instruction that goes on

load_goes : (hart last_hart : HartState) (memory last_memory : Memory) (rd address : ℕ) (answer : Result ℕ AccessFault) → loads hart memory rd address answer ≡ Goes last_hart last_memory
    → (value : ℕ) × (answer ≡ Ok value)
unfolding loads
load_goes hart last_hart memory last_memory rd address (Ok value) is = (value, refl)
load_goes hart last_hart memory last_memory rd address (Err Misaligned) is = absurd (cc)
load_goes hart last_hart memory last_memory rd address (Err Denied) is = absurd (cc)

store_goes : (hart last_hart : HartState) (last_memory : Memory) (address : ℕ) (answer : Result Memory AccessFault) → stores hart address answer ≡ Goes last_hart last_memory
    → (memory : Memory) × (answer ≡ Ok memory)
unfolding stores
store_goes hart last_hart last_memory address (Ok memory) is = (memory, refl)
store_goes hart last_hart last_memory address (Err Misaligned) is = absurd (cc)
store_goes hart last_hart last_memory address (Err Denied) is = absurd (cc)

viewed_ok : (view : ℕ → ℕ) (answer : Result ℕ AccessFault) (value : ℕ) → viewed view answer ≡ Ok value → (plain : ℕ) × (answer ≡ Ok plain)
viewed_ok view (Ok plain) value is = (plain, refl)
viewed_ok view (Err fault) value is = absurd (cc)

load_by : (aligned is_marked : Bool) (number : Option ℕ) (value : ℕ)
    → (if aligned && is_marked then Err Denied else (if aligned then ok_or number Denied else Err Misaligned)) ≡ Ok value → is_marked ≡ false
load_by true true number value is = absurd (cc)
load_by true false number value is = refl
load_by false is_marked number value is = absurd (cc)

unmarked_load : (places : Places) (memory : Memory) (count address value : ℕ) → loaded count (marked places memory) address ≡ Ok value → any_marked (is_load_marked places.watches) count address ≡ false
unfolding loaded
unmarked_load places memory count address value is =
    load_by (address % count == 0) (any_marked (is_load_marked places.watches) count address) (number_at (permitted (λ perm. perm.read) memory) count address) value
    (sym (marked_load places memory count address) ∙ is)

store_by : (places : Places) (aligned is_marked there : Bool) (wanted memory : Memory)
    → (if aligned && is_marked then Err Denied else stored_marked places (if aligned then (if there then Ok wanted else Err Denied) else Err Misaligned)) ≡ Ok memory → is_marked ≡ false
store_by places true true there wanted memory is = absurd (cc)
store_by places true false there wanted memory is = refl
store_by places false is_marked there wanted memory is = absurd (cc)

unmarked_store : (places : Places) (memory new : Memory) (count address number : ℕ) → stored count (marked places memory) address number ≡ Ok new → any_marked (is_store_marked places.watches) count address ≡ false
unfolding stored
unmarked_store places memory new count address number is =
    store_by places (address % count == 0) (any_marked (is_store_marked places.watches) count address) (is_some (number_at (permitted (λ perm. perm.write) memory) count address))
    (with_number count memory address number) new (sym (marked_store places memory count address number) ∙ is)

-- the load or store of an instruction that goes on is of no watched range
event_none : (places : Places) (hart last_hart : HartState) (memory last_memory : Memory) (instr : Instr) → executed hart (marked places memory) instr ≡ Goes last_hart last_memory
    → access_event places.watches (access_of hart instr) ≡ None
unfolding executed access_of
event_none places hart last_hart memory last_memory (Lb rd rs1 offset) is =
    let made = load_goes hart last_hart (marked places memory) last_memory rd _ _ is in
    let plain = viewed_ok _ _ made.0 made.1 in
    unseen_load places _ 1 (unmarked_load places memory 1 _ plain.0 plain.1)
event_none places hart last_hart memory last_memory (Lh rd rs1 offset) is =
    let made = load_goes hart last_hart (marked places memory) last_memory rd _ _ is in
    let plain = viewed_ok _ _ made.0 made.1 in
    unseen_load places _ 2 (unmarked_load places memory 2 _ plain.0 plain.1)
event_none places hart last_hart memory last_memory (Lw rd rs1 offset) is =
    let made = load_goes hart last_hart (marked places memory) last_memory rd _ _ is in unseen_load places _ 4 (unmarked_load places memory 4 _ made.0 made.1)
event_none places hart last_hart memory last_memory (Lbu rd rs1 offset) is =
    let made = load_goes hart last_hart (marked places memory) last_memory rd _ _ is in unseen_load places _ 1 (unmarked_load places memory 1 _ made.0 made.1)
event_none places hart last_hart memory last_memory (Lhu rd rs1 offset) is =
    let made = load_goes hart last_hart (marked places memory) last_memory rd _ _ is in unseen_load places _ 2 (unmarked_load places memory 2 _ made.0 made.1)
event_none places hart last_hart memory last_memory (Sb rs1 rs2 offset) is =
    let made = store_goes hart last_hart last_memory _ _ is in unseen_store places _ 1 (unmarked_store places memory made.0 1 _ _ made.1)
event_none places hart last_hart memory last_memory (Sh rs1 rs2 offset) is =
    let made = store_goes hart last_hart last_memory _ _ is in unseen_store places _ 2 (unmarked_store places memory made.0 2 _ _ made.1)
event_none places hart last_hart memory last_memory (Sw rs1 rs2 offset) is =
    let made = store_goes hart last_hart last_memory _ _ is in unseen_store places _ 4 (unmarked_store places memory made.0 4 _ _ made.1)
event_none places hart last_hart memory last_memory _ is = refl

not_call : (places : Places) (hart last_hart : HartState) (memory last_memory : Memory) (instr : Instr) → executed hart (marked places memory) instr ≡ Goes last_hart last_memory
    → is_call (Some instr) ≡ false
unfolding executed
not_call places hart last_hart memory last_memory Ecall is = absurd (cc)
not_call places hart last_hart memory last_memory _ is = refl

-- The next instruction, which goes on over the marks.
record GoesOn (places : Places) (hart : HartState) (memory : Memory) : Type 0 where
  instr : Instr
  is : next_instr hart memory ≡ Some instr
  address : any_marked (is_fetch_marked places) 4 hart.pc ≡ false
  last_hart : HartState
  last_memory : Memory
  goes : executed hart (marked places memory) instr ≡ Goes last_hart last_memory

decoded_goes : (hart last_hart : HartState) (memory last_memory : Memory) (word : ℕ) (instr : Option Instr) → decoded_word hart memory word instr ≡ Goes last_hart last_memory
    → (found : Instr) × (instr ≡ Some found) × (executed hart memory found ≡ Goes last_hart last_memory)
decoded_goes hart last_hart memory last_memory word None is = absurd (cc)
decoded_goes hart last_hart memory last_memory word (Some instr) is = (instr, refl, is)

fetched_goes : (hart last_hart : HartState) (memory last_memory : Memory) (is_marked : Bool) (word : Option ℕ) → fetched_word hart memory (if is_marked then None else word) ≡ Goes last_hart last_memory
    → (is_marked ≡ false) × ((found : ℕ) × (word ≡ Some found) × (decoded_word hart memory found (decoded found) ≡ Goes last_hart last_memory))
fetched_goes hart last_hart memory last_memory true word is = absurd (cc)
fetched_goes hart last_hart memory last_memory false None is = absurd (cc)
fetched_goes hart last_hart memory last_memory false (Some word) is = (refl, (word, refl, is))

goes_on : (places : Places) (hart : HartState) (memory : Memory) → IsUnmarked places hart memory → GoesOn places hart memory
unfolding next
goes_on places hart memory is =
    let fetch = ap (fetched_word hart (marked places memory)) (fetched_unless places memory hart.pc) in
    let found = fetched_goes hart is.last_hart (marked places memory) is.last_memory (any_marked (is_fetch_marked places) 4 hart.pc) (fetched memory hart.pc) (sym fetch ∙ is.goes) in
    let word = found.1 in
    let instr = decoded_goes hart is.last_hart (marked places memory) is.last_memory word.0 (decoded word.0) word.2 in
    record {
      instr = instr.0;
      is = ap (option_and_then decoded) word.1 ∙ instr.1;
      address = found.0;
      last_hart = is.last_hart;
      last_memory = is.last_memory;
      goes = instr.2;
    }

abbrev pub places_in : Wanted → Places
places_in wanted = record { breakpoints = wanted.breakpoints; watches = wanted.watches; fence = None }

-- A motion doesn't halt at an instruction that isn't marked and isn't waited for, and that is no call.
pub unmarked_is_quiet : (wanted : Wanted) (thread : ℕ) (hart : HartState) (memory : Memory) → arrives wanted.arrival thread hart.pc ≡ false → IsUnmarked (places_in wanted) hart memory
    → (instruction_halt wanted thread hart memory ≡ None) × (is_call (next_instr hart memory) ≡ false)
unfolding address_halt
unmarked_is_quiet wanted thread hart memory elsewhere is =
    let on = goes_on (places_in wanted) hart memory is in
    let address = unmarked_address (places_in wanted) hart.pc on.address in
    let event = event_none (places_in wanted) hart on.last_hart memory on.last_memory on.instr on.goes in
    (rw (address, elsewhere, on.is) event, rw on.is (not_call (places_in wanted) hart on.last_hart memory on.last_memory on.instr on.goes))

pub not_waited : (arrival : Option Arrival) (thread pc : ℕ) → waits arrival thread ≡ false → arrives arrival thread pc ≡ false
not_waited None thread pc is = refl
not_waited (Some arrival) thread pc is = let other : (thread == arrival.thread) ≡ false = grind (arith, nat_tests) in rw other refl
