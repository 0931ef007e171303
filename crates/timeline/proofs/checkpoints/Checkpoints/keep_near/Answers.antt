use Rattle.std.proofs.Common.{refl}
use Rattle.timeline.specs.Checkpoints.{start_of}
use Rattle.timeline.proofs.Keeping.{IsKept, IsTurnOf, pushed}
use Rattle.timeline.proofs.checkpoints.Checkpoints.keep_near.Goals as goal

pub returns-in-Ok : goal.returns-in-Ok
returns-in-Ok c =
    let old = c.requires.sound in
    let items = c.push-pushed.ensures.items in
    record {
      sound = record {
        first = old.first;
        kept_sound = old.kept_sound;
        kept_turns = old.kept_turns;
        near_sound = pushed IsKept _ _ _ _ old.near_sound c.in-Ok.ensures.sound items;
        near_turns = pushed (IsTurnOf (start_of c.args.self.now)) _ _ _ _ old.near_turns (c.in-Ok.ensures.turn (start_of c.args.self.now) c.requires.begins) items;
      };
      first = refl;
    }
