use Rattle.std.proofs.Common.{◌≡◌}
use Rattle.parallel_phase.specs.declared.taker_stage.TakerStage.TheVariants.{Going}
use Rattle.parallel_phase.proofs.in_order.take_turns.Given as goal

abbrev pub invariant-loop-number : goal.invariant-loop-number
invariant-loop-number g l = record {
  same : (g.T.TurnTaker.turns_of l.taker ≡ g.T.TurnTaker.turns_of l.fn.taker) × (g.T.TurnTaker.begins_with l.taker ≡ g.T.TurnTaker.begins_with l.fn.taker);
  stage : g.T.TurnTaker.taker_stage l.taker ≡ Going l.number;
}
