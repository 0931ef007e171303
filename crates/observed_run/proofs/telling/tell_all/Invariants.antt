use Rattle.std.proofs.Common.{take}
use Rattle.observed_run.specs.Told.{IsTold}
use Rattle.observed_run.proofs.telling.tell_all.Given as goal

abbrev pub invariant-loop-event : goal.invariant-loop-event
invariant-loop-event l = IsTold l.fn.recorder l.recorder (take l.event-index l.events)
