-- What gdb is shown of memory.
use Rattle.std.specs.Prelude.{ℕ, zero, suc, ◌+◌, ◌^◌, nat_lt, if◌then◌else◌, min, Option, Some, None, option_map, List, [], ◌∷◌}
use Rattle.gdb_packets.specs.Digits.{digits_of}
use Rattle.gdb_packets.specs.declared.window.Window.{Window}
use Rattle.timeline.specs.Moment.{Moment}
use Rattle.timeline.specs.Shown.{byte_shown}

abbrev pub bytes_with : Option ℕ → List ℕ → List ℕ
bytes_with None rest = []
bytes_with (Some byte) rest = byte ∷ rest

-- the bytes from an address on, as far as there are bytes, at most so many
unfoldable pub bytes_from : (ℕ → Option ℕ) → ℕ → ℕ → List ℕ
bytes_from read address zero = []
bytes_from read address (suc count) = if nat_lt address (2 ^ 32) then bytes_with (read address) (bytes_from read (address + 1) count) else []

-- the bytes that a thread sees
abbrev pub bytes_shown : Moment → ℕ → ℕ → ℕ → List ℕ
bytes_shown moment thread start count = bytes_from (byte_shown moment thread) start count

-- the byte of the shared memory at an address
abbrev pub shared_byte : Moment → ℕ → Option ℕ
shared_byte moment address = option_map (λ cell. cell.byte) (moment.point.state.memory address)

abbrev pub digits_if_any : List ℕ → Option (List ℕ)
digits_if_any [] = None
digits_if_any (byte ∷ bytes) = Some (digits_of (byte ∷ bytes))

-- the digits of the bytes that a thread sees in a window, of 8,192 bytes at most; none if the first one isn't mapped
abbrev pub memory_shown : Moment → ℕ → Window → Option (List ℕ)
memory_shown moment thread window = digits_if_any (bytes_shown moment thread window.start (min window.length 0x2000))
