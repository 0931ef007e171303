use Rattle.std.proofs.Common.{take}
use Rattle.races.specs.Clocks.{time, time_kept}
use Rattle.races.proofs.Clocked.{ArePlacesJoined}
use Rattle.races.proofs.clocks.Clocks.order.Given as goal

abbrev pub invariant-loop-place : goal.invariant-loop-place
invariant-loop-place l = ArePlacesJoined (time_kept l.initial.self) (time_kept l.self) (take l.place-index l.released) (time l.past)
