use Rattle.std.proofs.Common.{◌<◌, Some, arith, length}
use Rattle.std.proofs.lemmas.Grind.{common_steps}
use Rattle.token.specs.RunInTurn.{point_of}
use Rattle.schedule_core.proofs.Turning.{kept_desk, turn_done, posted_needed, slot_at, posted_there, must_be_posted}
use Rattle.schedule_core.specs.Scene.{point_at}
use Rattle.schedule_core.specs.declared.slot.Slot.TheVariants.{Posted}
use Rattle.schedule_core.proofs.scene.Scene.posted_turn.Goals as goal

pub index-requires : goal.index-requires
index-requires c =
    let there : c.args.job < length c.args.self.now.slots.items = posted_there c.args.self.now.slots.items c.args.job c.requires.posted in
    grind (arith, common_steps)

pub turn-requires : goal.turn-requires
turn-requires c = posted_needed (point_at c.args.self.now) c.args.work c.args.self.now.drawn c.args.self.now.seats.items c.args.self.now.slots.items c.args.job c.in-Posted.end c.requires.needs.need c.requires.needs.sound.desk c.requires.job (slot_at c.args.self.now.slots.items c.args.job c.index.result.now (Posted c.in-Posted.end) (posted_there c.args.self.now.slots.items c.args.job c.requires.posted) c.index.ensures c.in-Posted.is)

pub settle-requires-clause-desk : goal.settle-requires-clause-desk
settle-requires-clause-desk c =
    λ same. kept_desk (point_at c.args.self.now) (point_of c.turn.new.self) _ c.phase-phase.result c.args.self.now.drawn c.args.self.now.seats.items c.args.self.now.slots.items c.in_ok-turn-in-Posted.ensures.moved c.phase-phase.ensures c.requires.needs.sound.desk same

pub returns-in_ok-turn-in-Posted : goal.returns-in_ok-turn-in-Posted
returns-in_ok-turn-in-Posted c = record {
  sound = c.settle.ensures.sound;
  happens =
      turn_done c.args.self.now c.settle.new.self c.turn.new.self c.phase-phase.result (Some c.in-Posted.end) (posted_needed (point_at c.args.self.now) c.args.work c.args.self.now.drawn c.args.self.now.seats.items c.args.self.now.slots.items c.args.job c.in-Posted.end c.requires.needs.need c.requires.needs.sound.desk c.requires.job (slot_at c.args.self.now.slots.items c.args.job c.index.result.now (Posted c.in-Posted.end) (posted_there c.args.self.now.slots.items c.args.job c.requires.posted) c.index.ensures c.in-Posted.is))
      c.in_ok-turn-in-Posted.ensures.moved c.in_ok-turn-in-Posted.ensures.longer c.phase-phase.ensures c.settle.ensures.serial c.settle.ensures.keeper c.settle.ensures.counts;
  unchanged = tt;
}

pub returns-in_default : goal.returns-in_default
returns-in_default c = absurd (must_be_posted c.args.self.now.slots.items c.args.job c.index.result.now c.index.ensures c.requires.posted c.in_default.not-Posted)
