use Rattle.std.proofs.Common.{take}
use Rattle.schedule_core.specs.Scene.{point_at, tally_of}
use Rattle.schedule_core.specs.Tally.{HappenInTurn}
use Rattle.schedule_core.proofs.world.World.apply_all.Given as goal

abbrev pub invariant-loop-place : goal.invariant-loop-place
invariant-loop-place l = HappenInTurn (point_at l.fn.self) (tally_of l.fn.self) (take l.place l.events) (point_at l.self) (tally_of l.self)
