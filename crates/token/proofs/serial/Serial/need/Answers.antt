use Rattle.token.specs.RunInTurn.{point_of}
use Rattle.std.proofs.Common.{◌≡◌, None, subst}
use Rattle.token.specs.History.{IsHeldByKeeper}
use Rattle.token.specs.declared.run_in_turn.RunInTurn.{RunInTurn}
use Rattle.token.specs.Serial.{IsAskedFor}
use Rattle.token.proofs.Duties.{has_due}
use Rattle.token.proofs.LawfulTurn.{lawful}
use Rattle.token.proofs.Longer.{asked_for}
use Rattle.token.proofs.serial.Serial.need.Goals as goal

pub need-requires : goal.need-requires
unfolding point_of
need-requires g c = λ going. has_due (point_of c.self.inside.run) c.self.invariant.0 c.self.invariant.1 c.self.invariant.2 going

pub returns-clause-follows : goal.returns-clause-follows
returns-clause-follows g c = subst IsAskedFor c.self.view_is (asked_for c.self.inside.run (lawful g.R.Recorder.records c.self.inside.recorder c.self.inside.run c.self.invariant))

pub returns-clause-holders : goal.returns-clause-holders
returns-clause-holders g c =
    subst (λ (run : RunInTurn). (point_of run).ended ≡ None → IsHeldByKeeper (point_of run).state.objects (point_of run).keeper) c.self.view_is c.self.invariant.2.holders
