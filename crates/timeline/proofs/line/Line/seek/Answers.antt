use Rattle.std.proofs.Common.{◌≡◌, ◌-◌, inr, arith}
use Rattle.std.specs.Prelude.{min}
use Rattle.timeline.specs.Going.{goal_of}
use Rattle.timeline.specs.Halts.{wanted_by}
use Rattle.timeline.specs.Present.{step_of}
use Rattle.timeline.proofs.Moving.{on_err}
use Rattle.timeline.proofs.Seeking.{end_there, goes_there, sought}
use Rattle.timeline.proofs.line.Line.seek.Goals as goal

pub returns-in-End-clause-sought : goal.returns-in-End-clause-sought
returns-in-End-clause-sought c =
    let old = c.args.self.now.present in
    let end = end_there (wanted_by c.none.result) (goal_of old c.min.result) c.in_ok-forward.field-0 c.forward.new.self.present c.none.ensures c.in_ok-forward.ensures.halts c.in-End.is in
    inr (omega (arith, end.0, c.min.ensures, c.step_number-here.ensures, c.if-step-here.false), end.1)

pub returns-in_default : goal.returns-in_default
returns-in_default c =
    let old = c.args.self.now.present in
    let new = c.forward.new.self.present in
    let there = goes_there (wanted_by c.none.result) (goal_of old c.min.result) c.in_ok-forward.field-0 new c.none.ensures c.in_ok-forward.ensures.halts c.in_default.not-End in
    let most : c.min.result ≡ min c.args.most (c.args.step - step_of old) = omega (arith, c.min.ensures, c.step_number-here.ensures) in
    let is = sought old new c.args.step c.args.most (omega (arith, c.step_number-here.ensures, c.if-step-here.false)) (rw most at there) in
    record { moves = record { keeps = c.forward.ensures.moves.keeps; refused = tt }; sought = rw c.step_number.ensures is }

pub returns-in_err-forward-clause-moves : goal.returns-in_err-forward-clause-moves
returns-in_err-forward-clause-moves c =
    record { keeps = c.forward.ensures.moves.keeps; refused = on_err _ _ (rw c.none.ensures at c.in_err-forward.ensures.moves.refused) }
