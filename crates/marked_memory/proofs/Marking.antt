-- What a memory with marks answers: a marked access is denied, and any other is as without marks.
use Rattle.std.proofs.Common.{◌≡◌, ◌∙◌, ℕ, zero, suc, ◌+◌, ◌*◌, ◌/◌, ◌%◌, Bool, true, false, ◌&&◌, ◌||◌, if◌then◌else◌, Option, Some, None, Result, Ok, Err, refl, ap, arith}
use Rattle.std.proofs.Math.Path.{fun_ext}
use Rattle.std.proofs.lemmas.Bool.Decides.{nat_tests}
use Rattle.std.specs.Prelude.{◌-◌, ◌^◌, nat_le, nat_lt, not, ◌==◌, is_some, ok_or, option_map, option_and_then}
use Rattle.guest_memory.specs.Memory.{Cell, Memory, fetched, loaded, number_at, permitted, stored, with_number}
use Rattle.guest_memory.specs.declared.fault.AccessFault.{AccessFault}
use Rattle.guest_memory.specs.declared.fault.AccessFault.TheVariants.{Misaligned, Denied}
use Rattle.guest_memory.specs.declared.perm.Perm.{Perm}
use Rattle.marked_memory.specs.Marks.{Places, any_marked, is_fetch_marked, is_load_marked, is_store_marked, marked, marked_perm}

-- one address

taken : (may is_marked : Bool) (byte : ℕ) → (if may && not is_marked then Some byte else None) ≡ (if is_marked then None else (if may then Some byte else None))
taken true true byte = refl
taken true false byte = refl
taken false true byte = refl
taken false false byte = refl

abbrev unless : Bool → Option ℕ → Option ℕ
unless is_marked byte = if is_marked then None else byte

nothing : (is_marked : Bool) → None ≡ unless is_marked None
nothing true = refl
nothing false = refl

abbrev pub marked_cell : Places → ℕ → Option Cell → Option Cell
marked_cell places x cell = option_map (λ cell. record { perm = marked_perm places x cell.perm; byte = cell.byte }) cell

abbrev byte_by : (Perm → Bool) → Option Cell → Option ℕ
byte_by may cell = option_and_then (λ cell. if may cell.perm then Some cell.byte else None) cell

load_cell : (places : Places) (x : ℕ) (cell : Option Cell) → byte_by (λ perm. perm.read) (marked_cell places x cell) ≡ unless (is_load_marked places.watches x) (byte_by (λ perm. perm.read) cell)
load_cell places x None = nothing (is_load_marked places.watches x)
load_cell places x (Some cell) = taken cell.perm.read (is_load_marked places.watches x) cell.byte

store_cell : (places : Places) (x : ℕ) (cell : Option Cell) → byte_by (λ perm. perm.write) (marked_cell places x cell) ≡ unless (is_store_marked places.watches x) (byte_by (λ perm. perm.write) cell)
store_cell places x None = nothing (is_store_marked places.watches x)
store_cell places x (Some cell) = taken cell.perm.write (is_store_marked places.watches x) cell.byte

fetch_cell : (places : Places) (x : ℕ) (cell : Option Cell) → byte_by (λ perm. perm.execute) (marked_cell places x cell) ≡ unless (is_fetch_marked places x) (byte_by (λ perm. perm.execute) cell)
fetch_cell places x None = nothing (is_fetch_marked places x)
fetch_cell places x (Some cell) = taken cell.perm.execute (is_fetch_marked places x) cell.byte

load_byte : (places : Places) (memory : Memory) (x : ℕ)
    → permitted (λ perm. perm.read) (marked places memory) x ≡ unless (is_load_marked places.watches x) (permitted (λ perm. perm.read) memory x)
unfolding marked
load_byte places memory x = load_cell places x (memory x)

store_byte : (places : Places) (memory : Memory) (x : ℕ)
    → permitted (λ perm. perm.write) (marked places memory) x ≡ unless (is_store_marked places.watches x) (permitted (λ perm. perm.write) memory x)
unfolding marked
store_byte places memory x = store_cell places x (memory x)

fetch_byte : (places : Places) (memory : Memory) (x : ℕ)
    → permitted (λ perm. perm.execute) (marked places memory) x ≡ unless (is_fetch_marked places x) (permitted (λ perm. perm.execute) memory x)
unfolding marked
fetch_byte places memory x = fetch_cell places x (memory x)

-- several addresses

both : (first others : Bool) (low high : Option ℕ)
    → option_and_then (λ low. option_map (λ high. low + 256 * high) (unless others high)) (unless first low) ≡ unless (first || others) (option_and_then (λ low. option_map (λ high. low + 256 * high) high) low)
both true true low high = refl
both true false low high = refl
both false true None high = refl
both false true (Some low) high = refl
both false false low high = refl

marked_number : (marked_byte byte : ℕ → Option ℕ) (is_marked : ℕ → Bool) → ((x : ℕ) → marked_byte x ≡ unless (is_marked x) (byte x)) → (count address : ℕ)
    → number_at marked_byte count address ≡ unless (any_marked is_marked count address) (number_at byte count address)
unfolding any_marked
marked_number marked_byte byte is_marked each zero address = refl
marked_number marked_byte byte is_marked each (suc count) address =
    rw (each address, marked_number marked_byte byte is_marked each count (address + 1))
    (both (is_marked address) (any_marked is_marked count (address + 1)) (byte address) (number_at byte count (address + 1)))

-- loads

load_answer : (aligned is_marked : Bool) (number : Option ℕ)
    → (if aligned then ok_or (unless is_marked number) Denied else Err Misaligned) ≡ (if aligned && is_marked then Err Denied else (if aligned then ok_or number Denied else Err Misaligned))
load_answer true true number = refl
load_answer true false number = refl
load_answer false is_marked number = refl

pub marked_load : (places : Places) (memory : Memory) (count address : ℕ)
    → loaded count (marked places memory) address ≡ (if address % count == 0 && any_marked (is_load_marked places.watches) count address then Err Denied else loaded count memory address)
unfolding loaded
marked_load places memory count address =
    rw (marked_number (permitted (λ perm. perm.read) (marked places memory)) (permitted (λ perm. perm.read) memory) (is_load_marked places.watches) (load_byte places memory) count address)
    (load_answer (address % count == 0) (any_marked (is_load_marked places.watches) count address) (number_at (permitted (λ perm. perm.read) memory) count address))

one : (aligned is_marked : Bool) → aligned ≡ true → (aligned && (is_marked || false)) ≡ is_marked
one true true is = refl
one true false is = refl
one false is_marked is = absurd (cc)

any_of_byte : (is_marked : ℕ → Bool) (address : ℕ) → (address % 1 == 0 && any_marked is_marked 1 address) ≡ is_marked address
unfolding any_marked
any_of_byte is_marked address =
    let aligned : (address % 1 == 0) ≡ true = grind (arith, nat_tests) in
    one (address % 1 == 0) (is_marked address) aligned

pub marked_load_byte : (places : Places) (memory : Memory) (address : ℕ)
    → loaded 1 (marked places memory) address ≡ (if is_load_marked places.watches address then Err Denied else loaded 1 memory address)
marked_load_byte places memory address =
    marked_load places memory 1 address ∙ ap (λ (test : Bool). if test then Err Denied else loaded 1 memory address) (any_of_byte (is_load_marked places.watches) address)

-- stores

commuting : (places : Places) (x : ℕ) (within : Bool) (byte : ℕ) (cell : Option Cell)
    → option_map (λ cell. if within then record { perm = cell.perm; byte = byte } else cell) (marked_cell places x cell) ≡ marked_cell places x (option_map (λ cell. if within then record { perm = cell.perm; byte = byte } else cell) cell)
commuting places x true byte None = refl
commuting places x true byte (Some cell) = refl
commuting places x false byte None = refl
commuting places x false byte (Some cell) = refl

marked_stored_memory : (places : Places) (memory : Memory) (count address number : ℕ)
    → with_number count (marked places memory) address number ≡ marked places (with_number count memory address number)
unfolding with_number marked
marked_stored_memory places memory count address number =
    fun_ext (λ x. commuting places x (nat_le address x && nat_lt x (address + count)) (number / 256 ^ (x - address) % 256) (memory x))

abbrev pub stored_marked : Places → Result Memory AccessFault → Result Memory AccessFault
stored_marked places (Ok memory) = Ok (marked places memory)
stored_marked places (Err fault) = Err fault

store_answer : (places : Places) (aligned is_marked : Bool) (number : Option ℕ) (memory : Memory)
    → (if aligned then (if is_some (unless is_marked number) then Ok (marked places memory) else Err Denied) else Err Misaligned)
    ≡ (if aligned && is_marked then Err Denied else stored_marked places (if aligned then (if is_some number then Ok memory else Err Denied) else Err Misaligned))
store_answer places true true number memory = refl
store_answer places true false None memory = refl
store_answer places true false (Some number) memory = refl
store_answer places false is_marked number memory = refl

pub marked_store : (places : Places) (memory : Memory) (count address number : ℕ)
    → stored count (marked places memory) address number
    ≡ (if address % count == 0 && any_marked (is_store_marked places.watches) count address then Err Denied else stored_marked places (stored count memory address number))
unfolding stored
marked_store places memory count address number =
    rw (marked_number (permitted (λ perm. perm.write) (marked places memory)) (permitted (λ perm. perm.write) memory) (is_store_marked places.watches) (store_byte places memory) count address, marked_stored_memory places memory count address number)
    (store_answer places (address % count == 0) (any_marked (is_store_marked places.watches) count address) (number_at (permitted (λ perm. perm.write) memory) count address) (with_number count memory address number))

pub marked_store_byte : (places : Places) (memory : Memory) (address number : ℕ)
    → stored 1 (marked places memory) address number ≡ (if is_store_marked places.watches address then Err Denied else stored_marked places (stored 1 memory address number))
marked_store_byte places memory address number =
    marked_store places memory 1 address number
    ∙ ap (λ (test : Bool). if test then Err Denied else stored_marked places (stored 1 memory address number)) (any_of_byte (is_store_marked places.watches) address)

-- fetches

pub fetched_unless : (places : Places) (memory : Memory) (address : ℕ)
    → fetched (marked places memory) address ≡ (if any_marked (is_fetch_marked places) 4 address then None else fetched memory address)
unfolding fetched
fetched_unless places memory address =
    marked_number (permitted (λ perm. perm.execute) (marked places memory)) (permitted (λ perm. perm.execute) memory) (is_fetch_marked places) (fetch_byte places memory) 4 address
