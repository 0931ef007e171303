use Rattle.std.proofs.Common.{◌≡◌}
use Rattle.std.specs.String.{string_bytes}
use Rattle.timeline.specs.Present.{moment_of}
use Rattle.gdb_shown.specs.Registers.{first_registers}
use Rattle.gdb_shown.proofs.registers.registers_text.Given as goal

abbrev pub invariant-loop-number : goal.invariant-loop-number
invariant-loop-number l = string_bytes l.text ≡ first_registers (moment_of l.timeline.present) l.thread l.number
