use Rattle.timeline.specs.Checkpoints.{start_of}
use Rattle.timeline.proofs.Keeping.{IsKept, IsTurnOf, removed}
use Rattle.timeline.proofs.checkpoints.Checkpoints.thin_out.Goals as goal

pub loop-place-preserved : goal.loop-place-preserved
loop-place-preserved c =
    let old = c.loop-place.invariant.sound in
    let items = c.remove-dropped.ensures.by_index.2 in
    record {
      sound = record {
        first = old.first;
        kept_sound = removed IsKept c.loop-place.self.kept.items _ c.loop-place.place old.kept_sound items;
        kept_turns = removed (IsTurnOf (start_of c.loop-place.self)) c.loop-place.self.kept.items _ c.loop-place.place old.kept_turns items;
        near_sound = old.near_sound;
        near_turns = old.near_turns;
      };
      first = c.loop-place.invariant.first;
    }
