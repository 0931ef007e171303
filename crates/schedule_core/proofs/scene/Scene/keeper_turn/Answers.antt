use Rattle.std.proofs.Common.{Some, arith, subst}
use Rattle.std.proofs.lemmas.Grind.{common_steps}
use Rattle.token.proofs.Needs.{keeper_needed}
use Rattle.segment.specs.Ends.{IsEndOf}
use Rattle.token.specs.RunInTurn.{point_of}
use Rattle.guest_memory.specs.Memory.{Memory}
use Rattle.schedule_core.proofs.Turning.{kept_desk, turn_done}
use Rattle.schedule_core.specs.Scene.{IsKeeper, IsKeepers, point_at}
use Rattle.schedule_core.proofs.scene.Scene.keeper_turn.Goals as goal

pub settle-requires-clause-desk : goal.settle-requires-clause-desk
settle-requires-clause-desk c =
    λ same. kept_desk (point_at c.args.self.now) (point_of c.turn.new.self) _ c.phase-phase.result c.args.self.now.drawn c.args.self.now.seats.items c.args.self.now.slots.items c.in_ok-turn.ensures.moved c.phase-phase.ensures c.requires.sound.desk same

pub returns : goal.returns
returns c =
    let keepers : IsKeepers (point_at c.args.self.now) c.in-Some.underway = subst (IsKeeper (point_at c.args.self.now)) c.in-Some.is c.requires.sound.keeper in
    record {
      answer = grind (arith, common_steps);
      does = record {
        sound = c.settle.ensures.sound;
        happens =
            turn_done c.args.self.now c.settle.new.self c.turn.new.self c.phase-phase.result (Some c.in_ok-end.end) (keeper_needed (point_at c.args.self.now) c.in-Some.underway.work c.in_ok-end.end keepers.need (subst (λ (memory : Memory). IsEndOf memory c.in-Some.underway.work.segment c.in_ok-end.end) keepers.memory c.in_ok-end.ensures))
            c.in_ok-turn.ensures.moved c.in_ok-turn.ensures.longer c.phase-phase.ensures c.settle.ensures.serial c.settle.ensures.keeper c.settle.ensures.counts;
        unchanged = tt;
      };
    }
