use Rattle.explored_runs.specs.Runs.{AllSeen}
use Rattle.explored_runs.proofs.drawing.draw_runs.Given as goal

abbrev pub invariant-loop : goal.invariant-loop
invariant-loop g l = AllSeen l.image l.input l.config l.seen.items
