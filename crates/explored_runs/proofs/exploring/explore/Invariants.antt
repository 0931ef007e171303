use Rattle.std.proofs.Common.{◌-◌, ◌≤◌}
use Rattle.elf32_reader.specs.Segments.{image_of}
use Rattle.explored_runs.specs.Rows.{AreRowsOf}
use Rattle.explored_runs.specs.Runs.{IsRun}
use Rattle.explored_runs.proofs.exploring.explore.Given as goal

abbrev pub invariant-loop-done : goal.invariant-loop-done
invariant-loop-done g l = record { within : l.done ≤ l.fn.runs; rows : AreRowsOf (IsRun (image_of l.elf) l.input l.config) l.fn.from l.done l.rows.items }

abbrev pub decreases-loop-done : goal.decreases-loop-done
decreases-loop-done g l = l.fn.runs - l.done
