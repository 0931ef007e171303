use Rattle.schedule_core.proofs.Turning.{kept_desk}
use Rattle.schedule_core.specs.Scene.{point_at}
use Rattle.token.specs.RunInTurn.{point_of}
use Rattle.schedule_core.proofs.scene.Scene.wake_turn.Goals as goal

pub settle-requires-clause-desk : goal.settle-requires-clause-desk
settle-requires-clause-desk c =
    λ same. kept_desk (point_at c.args.self.now) (point_of c.turn.new.self) _ c.phase-phase.result c.args.self.now.drawn c.args.self.now.seats.items c.args.self.now.slots.items c.in_ok-turn.ensures.moved c.phase-phase.ensures c.requires.sound.desk same
