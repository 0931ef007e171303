use Rattle.std.proofs.Common.{refl}
use Rattle.timeline.specs.Checkpoints.{start_of}
use Rattle.timeline.proofs.Keeping.{IsKept, IsTurnOf, pushed}
use Rattle.timeline.proofs.checkpoints.Checkpoints.keep_here.Goals as goal

pub returns-in-Ok : goal.returns-in-Ok
returns-in-Ok c =
    let old = c.requires.sound in
    let items = c.push-pushed.ensures.items in
    record {
      sound = record {
        first = old.first;
        kept_sound = pushed IsKept _ _ _ _ old.kept_sound c.in-Ok.ensures.sound items;
        kept_turns = pushed (IsTurnOf (start_of c.args.self.now)) _ _ _ _ old.kept_turns (c.in-Ok.ensures.turn (start_of c.args.self.now) c.requires.begins) items;
        near_sound = old.near_sound;
        near_turns = old.near_turns;
      };
      first = refl;
    }
