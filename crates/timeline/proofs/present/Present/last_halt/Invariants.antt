use Rattle.std.proofs.Common.{◌-◌, ◌≤◌}
use Rattle.timeline.specs.Backward.{Finds}
use Rattle.timeline.specs.Halts.{wanted_by}
use Rattle.timeline.specs.Present.{StaysInRun, step_of}
use Rattle.timeline.proofs.present.Present.last_halt.Given as goal

abbrev pub invariant-loop-self : goal.invariant-loop-self
invariant-loop-self l =
    record {
      stays : StaysInRun l.fn.self l.self;
      since : step_of l.fn.self ≤ step_of l.self;
      within : step_of l.self ≤ l.until;
      found : Finds (wanted_by l.stops) l.fn.self (step_of l.self) l.last;
    }

abbrev pub decreases-loop-self : goal.decreases-loop-self
decreases-loop-self l = l.until - step_of l.self
