use Rattle.std.proofs.Common.{◌≡◌, ◌+◌, vec_len}
use Rattle.explored_runs.specs.Rows.{AreRowsOf}
use Rattle.explored_runs.specs.Runs.{AreSlots, IsRun}
use Rattle.explored_runs.proofs.exploring.count_all.Given as goal

abbrev pub invariant-loop-place : goal.invariant-loop-place
invariant-loop-place g l = record {
  len : vec_len l.slots ≡ l.batch.count;
  slots : AreSlots l.image l.input l.config l.batch l.slots.items;
  rows : AreRowsOf (IsRun l.image l.input l.config) l.batch.from (l.batch.done + l.place) l.rows.items;
}
