-- What a search of a position comes to.
use Rattle.std.specs.Prelude.{◌≡◌, ◌⊎◌, ℕ, ◌<◌, ◌^◌, ◌==◌, if◌then◌else◌, Option, Some, None, List, unwrap_or}
use Rattle.gdb_packets.specs.Digits.{bytes_in}
use Rattle.gdb_packets.specs.Numbers.{parts_at}
use Rattle.token.specs.Point.{Point}
use Rattle.timeline.specs.Line.{SameRun}
use Rattle.timeline.specs.Moment.{Moment, moment_at}
use Rattle.timeline.specs.Present.{step_of}
use Rattle.timeline.specs.declared.line.Line.{Line}
use Rattle.gdb_monitor.specs.Commands.{decimal_in}

-- The run stands where it stood.
pub record Stays (old new : Line) : Type 0 where
  pub run : SameRun old new
  pub step : step_of new.present ≡ step_of old.present

abbrev pub same_or_none : ℕ → ℕ → Option ℕ
same_or_none found step = if found == step then Some step else None

-- This step, if a run has it: steps beyond 2^63 aren't looked for.
abbrev pub HasStep : Point → ℕ → Option ℕ → Type 0
HasStep start step (Some found) = (found ≡ step) × ((moment : Moment) × (moment_at start step ≡ Some moment))
HasStep start step None = (moment_at start step ≡ None) ⊎ (2 ^ 63 < step)

-- the number that some bytes say, and else 0
abbrev pub number_or_0 : Option (List ℕ) → ℕ
number_or_0 None = 0
number_or_0 (Some text) = unwrap_or (decimal_in text) 0

abbrev pub step_behind : Option (List ℕ × List ℕ) → ℕ
step_behind None = 0
step_behind (Some parts) = number_or_0 (bytes_in parts.1)

-- the step that the arguments of a restart name: behind the first ; (59) a number in pairs of digits, and else 0
abbrev pub step_named : List ℕ → ℕ
step_named arguments = step_behind (parts_at 59 arguments)
