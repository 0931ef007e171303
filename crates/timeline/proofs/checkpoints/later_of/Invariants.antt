use Rattle.std.proofs.Common.{All}
use Rattle.token.specs.Point.{Point}
use Rattle.timeline.specs.Checkpoint.{IsAtMost, KeepsTurn}
use Rattle.timeline.proofs.checkpoints.later_of.Given as goal

abbrev pub invariant-loop-kept : goal.invariant-loop-kept
invariant-loop-kept l =
    record {
      at_most : IsAtMost l.best l.step;
      turn : (start : Point) → KeepsTurn start l.fn.first → All (λ kept. KeepsTurn start kept.value) l.list → KeepsTurn start l.best;
    }
