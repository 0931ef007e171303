-- Ranges of addresses and of pages, one after the other.
use Rattle.std.proofs.Common.{◌≡◌, ℕ, zero, suc, ◌+◌, ◌-◌, ◌*◌, ◌<◌, ◌≤◌, Bool, true, false, not, ◌&&◌, Option, Some, None, [], length, refl, sym, ap, ◌∙◌, arith}
use Rattle.std.specs.Prelude.{is_some, if◌then◌else◌, option_map}
use Rattle.guest_memory.specs.Memory.{Cell, Memory, permitted}
use Rattle.guest_memory.specs.declared.perm.Perm.{Perm}
use Rattle.guest_memory.specs.Layout as layout
use Rattle.call_table.specs.Effects.{all_permitted, are_mapped, bytes_of}

-- how many are left
left_over : (done count : ℕ) → done < count → count - done ≡ suc (count - (done + 1))
left_over done count within = omega arith

none_over : (done count : ℕ) → count ≤ done → count - done ≡ 0
none_over done count past = omega arith

are_mapped-next : (memory : Memory) (first done count : ℕ) → done < count
    → are_mapped memory (first + done) (count - done) ≡ (is_some (memory (layout.page_size * (first + done))) && are_mapped memory (first + (done + 1)) (count - (done + 1)))
unfolding are_mapped
are_mapped-next memory first done count within =
    let place : first + done + 1 ≡ first + (done + 1) = omega arith in
    ap (are_mapped memory (first + done)) (left_over done count within)
    ∙ ap (λ (page : ℕ). is_some (memory (layout.page_size * (first + done))) && are_mapped memory page (count - (done + 1))) place

-- a page by whether its first address is mapped
pub are_mapped-told : (memory : Memory) (first done count : ℕ) (answer : Option ℕ) (none : Bool) → done < count
    → answer ≡ option_map (λ (cell : Cell). cell.byte) (memory (layout.page_size * (first + done))) → is_some answer ≡ not none
    → are_mapped memory (first + done) (count - done) ≡ (not none && are_mapped memory (first + (done + 1)) (count - (done + 1)))
are_mapped-told memory first done count answer none within is told =
    let same : is_some (memory (layout.page_size * (first + done))) ≡ not none = sym (kept (memory (layout.page_size * (first + done)))) ∙ ap is_some (sym is) ∙ told in
    rw (are_mapped-next memory first done count within, same) refl
  where
    kept : (cell : Option Cell) → is_some (option_map (λ (cell : Cell). cell.byte) cell) ≡ is_some cell
    kept None = refl
    kept (Some cell) = refl

pub are_mapped-end : (memory : Memory) (page done count : ℕ) → count ≤ done → are_mapped memory page (count - done) ≡ true
unfolding are_mapped
are_mapped-end memory page done count past = ap (are_mapped memory page) (none_over done count past)

-- the bytes of a range that is done
pub bytes_of-end : (memory : Memory) (address done count : ℕ) → count ≤ done → bytes_of memory address (count - done) ≡ []
unfolding bytes_of
bytes_of-end memory address done count past = ap (bytes_of memory address) (none_over done count past)

-- a range that is permitted
module _ (may : Perm → Bool) where
  all_permitted-next : (memory : Memory) (address done count : ℕ) → done < count
      → all_permitted may memory (address + done) (count - done) ≡ (is_some (permitted may memory (address + done)) && all_permitted may memory (address + (done + 1)) (count - (done + 1)))
  unfolding all_permitted
  all_permitted-next memory address done count within =
      let place : address + done + 1 ≡ address + (done + 1) = omega arith in
      ap (all_permitted may memory (address + done)) (left_over done count within)
      ∙ ap (λ (other : ℕ). is_some (permitted may memory (address + done)) && all_permitted may memory other (count - (done + 1))) place

  pub all_permitted-end : (memory : Memory) (address done count : ℕ) → count ≤ done → all_permitted may memory address (count - done) ≡ true
  unfolding all_permitted
  all_permitted-end memory address done count past = ap (all_permitted may memory address) (none_over done count past)

  -- an address by the permission of its page
  told_unmapped : (cell : Option Cell) → None ≡ option_map (λ (cell : Cell). cell.perm) cell → cell ≡ None
  told_unmapped None h = refl
  told_unmapped (Some cell) h = absurd (cc)

  pub told_permission : (memory : Memory) (address : ℕ) (cell : Option Cell) (perm : Perm) → memory address ≡ cell → Some perm ≡ option_map (λ (cell : Cell). cell.perm) cell
      → is_some (permitted may memory address) ≡ may perm
  told_permission memory address None perm is h = absurd (cc)
  told_permission memory address (Some cell) perm is h =
      let same : perm ≡ cell.perm = cc in
      rw (is, same) (by_test (may cell.perm))
    where
      by_test : (test : Bool) → is_some (if test then Some cell.byte else None) ≡ test
      by_test true = refl
      by_test false = refl

  pub all_permitted-unmapped : (memory : Memory) (address done count : ℕ) → done < count → None ≡ option_map (λ (cell : Cell). cell.perm) (memory (address + done))
      → all_permitted may memory (address + done) (count - done) ≡ false
  all_permitted-unmapped memory address done count within h =
      rw (all_permitted-next memory address done count within, told_unmapped (memory (address + done)) h) refl

  pub all_permitted-by : (memory : Memory) (address done count : ℕ) (perm : Perm) → done < count → Some perm ≡ option_map (λ (cell : Cell). cell.perm) (memory (address + done))
      → all_permitted may memory (address + done) (count - done) ≡ (may perm && all_permitted may memory (address + (done + 1)) (count - (done + 1)))
  all_permitted-by memory address done count perm within h =
      rw (all_permitted-next memory address done count within, told_permission memory (address + done) (memory (address + done)) perm refl h) refl

pub length-bytes_of : (memory : Memory) (address count : ℕ) → length (bytes_of memory address count) ≡ count
unfolding bytes_of
length-bytes_of memory address zero = refl
length-bytes_of memory address (suc count) = ap suc (length-bytes_of memory (address + 1) count)

pub ruleset lengths = (length-bytes_of)
