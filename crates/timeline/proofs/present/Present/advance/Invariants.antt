use Rattle.std.proofs.Common.{◌-◌, ◌≤◌}
use Rattle.timeline.specs.Present.{StaysInRun, step_of}
use Rattle.timeline.proofs.present.Present.advance.Given as goal

abbrev pub invariant-loop-self : goal.invariant-loop-self
invariant-loop-self l =
    record {
      stays : StaysInRun l.fn.self l.self;
      within : step_of l.self ≤ l.step;
    }

abbrev pub decreases-loop-self : goal.decreases-loop-self
decreases-loop-self l = l.step - step_of l.self
