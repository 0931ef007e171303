use Rattle.std.proofs.Common.{◌≡◌, ◌++◌, ℕ, List, take}
use Rattle.std.specs.String.{string_bytes}
use Rattle.command_line.specs.Failures.{AreShown}
use Rattle.command_line.proofs.failures.push_failures.Given as goal

abbrev pub invariant-loop-row : goal.invariant-loop-row
invariant-loop-row g l =
    (more : List ℕ) × AreShown l.fn.exploration l.fn.elf l.fn.input (take l.row-index l.rows) more × (string_bytes l.text ≡ string_bytes l.initial.text ++ more)
