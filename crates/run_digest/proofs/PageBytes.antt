-- What is hashed of a page is made of its own bytes.
use Rattle.std.proofs.Common.{◌≡◌, ℕ, zero, suc, ◌+◌, ◌*◌, ◌/◌, ◌%◌, ◌<◌, Option, Some, None, List, [], ◌∷◌, ◌++◌, length, drop, refl, sym, ◌∙◌, ap, arith}
use Rattle.std.specs.Prelude.{option_map, slice_index, unwrap_or}
use Rattle.std.proofs.lemmas.List.{drop_all, drop_more}
use Rattle.call_table.specs.Effects.{byte_at, bytes_of}
use Rattle.guest_memory.specs.Memory.{Cell, Memory}
use Rattle.paged_memory.specs.Page.{PageValue}
use Rattle.paged_memory.specs.PageMap.{PageMap, memory_of_pages}
use Rattle.run_digest.specs.Memories.{message_at, message_below, message_by, page_message}

-- the cell at a place of a page
abbrev cell_of : ℕ → PageValue → Cell
cell_of place page = record { perm = page.perm; byte = slice_index page.bytes place }

module _ (pages : PageMap) (number : ℕ) where
  module _ (page : PageValue) (is : pages number ≡ Some page) (full : length page.bytes ≡ 4096) where
    byte_there : (offset : ℕ) → offset < 4096 → byte_at (memory_of_pages pages) (4096 * number + offset) ≡ slice_index page.bytes offset
    unfolding memory_of_pages
    byte_there offset inside =
        let quotient : (4096 * number + offset) / 4096 ≡ number = omega arith in
        let rest : (4096 * number + offset) % 4096 ≡ offset = omega arith in
        ap (λ (found : Option PageValue). unwrap_or (option_map (λ (cell : Cell). cell.byte) (option_map (cell_of ((4096 * number + offset) % 4096)) found)) 0) (ap pages quotient ∙ is)
        ∙ ap (slice_index page.bytes) rest

    bytes_along : (count offset : ℕ) → offset + count ≡ 4096 → bytes_of (memory_of_pages pages) (4096 * number + offset) count ≡ drop offset page.bytes
    unfolding bytes_of
    bytes_along zero offset sum = sym (drop_all offset page.bytes (omega arith))
    bytes_along (suc count) offset sum =
        let memory : Memory = memory_of_pages pages in
        let next : 4096 * number + offset + 1 ≡ 4096 * number + (offset + 1) = omega arith in
        ap (λ (byte : ℕ). byte ∷ bytes_of memory (4096 * number + offset + 1) count) (byte_there offset (omega arith))
        ∙ ap (λ (later : List ℕ). slice_index page.bytes offset ∷ later) (ap (λ (address : ℕ). bytes_of memory address count) next ∙ bytes_along count (offset + 1) (omega arith))
        ∙ sym (drop_more page.bytes offset 0 (omega arith))

    whole : bytes_of (memory_of_pages pages) (4096 * number) 4096 ≡ page.bytes
    whole =
        let start : 4096 * number ≡ 4096 * number + 0 = omega arith in
        ap (λ (address : ℕ). bytes_of (memory_of_pages pages) address 4096) start ∙ bytes_along 4096 0 refl

    pub message_there : message_at (memory_of_pages pages) number ≡ page_message number page
    unfolding memory_of_pages
    message_there =
        let memory : Memory = memory_of_pages pages in
        let quotient : 4096 * number / 4096 ≡ number = omega arith in
        ap (λ (found : Option PageValue). message_by memory number (option_map (cell_of (4096 * number % 4096)) found)) (ap pages quotient ∙ is)
        ∙ ap (λ (bytes : List ℕ). page_message number (record { perm = page.perm; bytes = bytes })) whole

  pub message_nowhere : pages number ≡ None → message_at (memory_of_pages pages) number ≡ []
  unfolding memory_of_pages
  message_nowhere none =
      let memory : Memory = memory_of_pages pages in
      let quotient : 4096 * number / 4096 ≡ number = omega arith in
      ap (λ (found : Option PageValue). message_by memory number (option_map (cell_of (4096 * number % 4096)) found)) (ap pages quotient ∙ none)

-- one page more
pub message_more : (memory : Memory) (number : ℕ) → message_below memory (number + 1) ≡ message_below memory number ++ message_at memory number
unfolding message_below
message_more memory number = let next : number + 1 ≡ suc number = omega arith in ap (message_below memory) next
