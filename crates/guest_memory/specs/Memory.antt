use Rattle.std.specs.Prelude.{ℕ, zero, suc, ◌+◌, ◌-◌, ◌*◌, ◌/◌, ◌%◌, ◌^◌, Bool, ◌&&◌, ◌==◌, nat_le, nat_lt, if◌then◌else◌, Option, Some, None, Result, Ok, Err, option_map, option_and_then, ok_or, is_some}
use Rattle.guest_memory.specs.declared.perm.Perm.{Perm}
use Rattle.guest_memory.specs.declared.fault.AccessFault.{AccessFault}
use Rattle.guest_memory.specs.declared.fault.AccessFault.TheVariants.{Misaligned, Denied}

-- what stands at a mapped address: what its page permits, and its byte
pub record Cell : Type 0 where
  pub perm : Perm
  pub byte : ℕ

-- A memory is a map: each address has a cell, or none where it isn't mapped.
abbrev pub Memory : Type 0
Memory = ℕ → Option Cell

-- the byte at an address, where it is mapped and its page permits the access
abbrev pub permitted : (Perm → Bool) → Memory → ℕ → Option ℕ
permitted may memory address = option_and_then (λ cell. if may cell.perm then Some cell.byte else None) (memory address)

-- the number that count bytes from an address on spell, the lowest first, where each of them is there
abbrev pub number_at : (ℕ → Option ℕ) → ℕ → ℕ → Option ℕ
number_at byte zero address = Some 0
number_at byte (suc count) address =
    option_and_then (λ low. option_map (λ high. low + 256 * high) (number_at byte count (address + 1))) (byte address)

-- what a load of count bytes answers: the alignment is looked at before the permission
unfoldable pub loaded : ℕ → Memory → ℕ → Result ℕ AccessFault
loaded count memory address =
    if address % count == 0 then ok_or (number_at (permitted (λ perm. perm.read) memory) count address) Denied else Err Misaligned

-- what a fetch answers: the word, where its four bytes are executable
unfoldable pub fetched : Memory → ℕ → Option ℕ
fetched memory address = number_at (permitted (λ perm. perm.execute) memory) 4 address

-- the memory with the count bytes from an address on replaced by those of a number, the lowest first; no permission changes
unfoldable pub with_number : ℕ → Memory → ℕ → ℕ → Memory
with_number count memory address number x =
    option_map
    (λ cell. if nat_le address x && nat_lt x (address + count) then record { perm = cell.perm; byte = number / 256 ^ (x - address) % 256 } else cell)
    (memory x)

-- what a store of count bytes makes of a memory
unfoldable pub stored : ℕ → Memory → ℕ → ℕ → Result Memory AccessFault
stored count memory address number =
    if address % count == 0 then
    (if is_some (number_at (permitted (λ perm. perm.write) memory) count address) then Ok (with_number count memory address number) else Err Denied)
    else Err Misaligned
