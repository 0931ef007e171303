use Rattle.std.proofs.Common.{arith}
use Rattle.timeline.specs.Going.{goal_of}
use Rattle.timeline.specs.Halts.{wanted_by}
use Rattle.timeline.proofs.Moving.{on_err}
use Rattle.timeline.proofs.Seeking.{end_there, goes_there}
use Rattle.timeline.proofs.line.Line.step.Goals as goal

pub returns-in-End-clause-stepped : goal.returns-in-End-clause-stepped
returns-in-End-clause-stepped c =
    let old = c.args.self.now.present in
    let forward = c.in_ok-forward.ensures in
    let end = end_there (wanted_by c.none.result) (goal_of old 1) c.in_ok-forward.field-0 c.forward.new.self.present c.none.ensures forward.halts c.in-End.is in
    (omega (arith, forward.since, end.0), end.1)

pub returns-in_default : goal.returns-in_default
returns-in_default c =
    record {
      moves = record { keeps = c.forward.ensures.moves.keeps; refused = tt };
      stepped =
          goes_there (wanted_by c.none.result) (goal_of c.args.self.now.present 1) c.in_ok-forward.field-0 c.forward.new.self.present c.none.ensures c.in_ok-forward.ensures.halts
          c.in_default.not-End;
    }

pub returns-in_err-forward-clause-moves : goal.returns-in_err-forward-clause-moves
returns-in_err-forward-clause-moves c =
    record { keeps = c.forward.ensures.moves.keeps; refused = on_err _ _ (rw c.none.ensures at c.in_err-forward.ensures.moves.refused) }
