use Rattle.std.proofs.Common.{take}
use Rattle.races.specs.Clocks.{time, time_at}
use Rattle.races.proofs.Clocked.{IsPastOf}
use Rattle.races.proofs.clocks.Clocks.past_of.Given as goal

abbrev pub invariant-loop-place : goal.invariant-loop-place
invariant-loop-place l = IsPastOf (time_at l.self l.step) (take l.place-index l.acquired) (time l.past)
