-- What of a memory is hashed.
use Rattle.std.specs.Prelude.{ℕ, zero, suc, ◌+◌, ◌*◌, ◌^◌, if◌then◌else◌, Option, Some, None, List, [], ◌∷◌, ◌++◌}
use Rattle.guest_memory.specs.Layout.{page_size}
use Rattle.guest_memory.specs.Memory.{Cell, Memory}
use Rattle.guest_memory.specs.declared.perm.Perm.{Perm}
use Rattle.call_table.specs.Effects.{bytes_of}
use Rattle.text_output.specs.Digits.{hexadecimal}
use Rattle.paged_memory.specs.Page.{PageValue}

-- the number of what a page permits: 1 for loads, 2 for stores and 4 for fetches, added
abbrev pub permission_number : Perm → ℕ
permission_number perm = (if perm.read then 1 else 0) + (if perm.write then 2 else 0) + (if perm.execute then 4 else 0)

-- a page by its number: the digits of its address, the number of what it permits, its bytes
abbrev pub page_message : (number : ℕ) → PageValue → List ℕ
page_message number page = hexadecimal 8 (page_size * number) ++ permission_number page.perm ∷ page.bytes

-- the page of a number in a memory, by the cell of its first byte; nothing where it isn't mapped
abbrev pub message_by : Memory → (number : ℕ) → Option Cell → List ℕ
message_by memory number None = []
message_by memory number (Some cell) = page_message number (record { perm = cell.perm; bytes = bytes_of memory (page_size * number) page_size })

abbrev pub message_at : Memory → (number : ℕ) → List ℕ
message_at memory number = message_by memory number (memory (page_size * number))

-- the first pages of a memory, ascending
unfoldable pub message_below : Memory → ℕ → List ℕ
message_below memory zero = []
message_below memory (suc number) = message_below memory number ++ message_at memory number

-- all pages of a memory
unfoldable pub memory_message : Memory → List ℕ
memory_message memory = message_below memory (2 ^ 20)
