use Rattle.std.proofs.Common.{◌≡◌, drop}
use Rattle.explored_runs.specs.LastLine as spec
use Rattle.explored_runs.proofs.last_line.last_line.Given as goal

abbrev pub invariant-loop-i : goal.invariant-loop-i
invariant-loop-i l = spec.last_line_from l.line.items (drop l.i l.output) ≡ spec.last_line l.output
