-- What gdb is shown of a thread's registers.
use Rattle.std.specs.Prelude.{ℕ, zero, suc, nat_lt, if◌then◌else◌, Option, Some, None, List, [], ◌++◌}
use Rattle.std.specs.Int.{to_le_bytes, w32}
use Rattle.hart.specs.HartState.{HartState, register}
use Rattle.gdb_packets.specs.Digits.{digits_of}
use Rattle.timeline.specs.Moment.{Moment}
use Rattle.timeline.specs.Shown.{hart_shown}

-- a register by its number: x0 to x31, and then pc
abbrev pub register_in : HartState → ℕ → ℕ
register_in hart number = if nat_lt number 32 then register hart number else hart.pc

abbrev pub register_by : Option HartState → ℕ → ℕ
register_by None number = 0
register_by (Some hart) number = register_in hart number

-- a register of a thread, 0 if the thread isn't created
abbrev pub register_shown : Moment → ℕ → ℕ → ℕ
register_shown moment thread number = register_by (hart_shown moment thread) number

-- the digits of a word as it stands in memory, the lowest byte first
abbrev pub word_digits : ℕ → List ℕ
word_digits word = digits_of (to_le_bytes w32 word)

-- the digits of the first registers of a thread, so many
unfoldable pub first_registers : Moment → ℕ → ℕ → List ℕ
first_registers moment thread zero = []
first_registers moment thread (suc count) = first_registers moment thread count ++ word_digits (register_shown moment thread count)

-- the digits of all registers of a thread
abbrev pub registers_shown : Moment → ℕ → List ℕ
registers_shown moment thread = first_registers moment thread 33

-- the digits of one register of a thread, none if there is no such register
abbrev pub one_register_shown : Moment → ℕ → ℕ → Option (List ℕ)
one_register_shown moment thread number = if nat_lt number 33 then Some (word_digits (register_shown moment thread number)) else None
