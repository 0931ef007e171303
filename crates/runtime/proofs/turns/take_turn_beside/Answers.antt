use Rattle.std.proofs.Common.{sym}
use Rattle.token.specs.RunInTurn.{point_of}
use Rattle.runtime.proofs.Needs.{end_at, on_err}
use Rattle.runtime.proofs.turns.take_turn_beside.Goals as goal

pub returns-in_err-end-clause-unended : goal.returns-in_err-end-clause-unended
returns-in_err-end-clause-unended g c = on_err _ _ (end_at (point_of c.args.serial.now) _ (sym c.requires.need))

pub returns-in_err-turn-clause-unended : goal.returns-in_err-turn-clause-unended
returns-in_err-turn-clause-unended g c = on_err _ _ (end_at (point_of c.args.serial.now) _ (sym c.requires.need))
