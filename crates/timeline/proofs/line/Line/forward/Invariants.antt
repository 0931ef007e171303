use Rattle.std.proofs.Common.{◌-◌, ◌≤◌, ◌^◌}
use Rattle.timeline.specs.Halting.{NoneBetween}
use Rattle.timeline.specs.Halts.{wanted_by}
use Rattle.timeline.specs.Line.{KeepsRun, start_of}
use Rattle.timeline.specs.Present.{step_of}
use Rattle.timeline.proofs.line.Line.forward.Given as goal

abbrev pub invariant-loop-self : goal.invariant-loop-self
invariant-loop-self l =
    record {
      keeps : KeepsRun l.fn.self l.self;
      few : l.until ≤ 2 ^ 63;
      since : step_of l.fn.self.present ≤ step_of l.self.present;
      within : step_of l.self.present ≤ l.until;
      passed : NoneBetween (wanted_by l.stops) (start_of l.fn.self) (step_of l.fn.self.present) (step_of l.self.present);
    }

abbrev pub decreases-loop-self : goal.decreases-loop-self
decreases-loop-self l = l.until - step_of l.self.present
