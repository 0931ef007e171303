use Rattle.std.proofs.Common.{◌≡◌, All, vec_len}
use Rattle.explored_runs.specs.Runs.{AreSlots, IsPart}
use Rattle.explored_runs.proofs.drawing.run_batch.Given as goal

abbrev pub invariant-loop-part : goal.invariant-loop-part
invariant-loop-part g l = record {
  len : vec_len l.slots ≡ l.batch.count;
  slots : AreSlots l.image l.input l.config l.batch l.slots.items;
  parts : All (IsPart l.image l.input l.config) l.parts.items;
}

abbrev pub decreases-loop-part : goal.decreases-loop-part
decreases-loop-part g l = vec_len l.parts
