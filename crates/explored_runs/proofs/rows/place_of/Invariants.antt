use Rattle.std.proofs.Common.{◌≢◌, ℕ, ◌<◌, slice_index_or}
use Rattle.explored_runs.specs.declared.row.Row.{Row}
use Rattle.explored_runs.proofs.rows.place_of.Given as goal

abbrev pub invariant-loop-i : goal.invariant-loop-i
invariant-loop-i l = (k : ℕ) (d : Row) → k < l.i → (slice_index_or l.rows k d).ending ≢ l.ending
