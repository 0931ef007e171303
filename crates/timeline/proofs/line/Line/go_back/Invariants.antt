use Rattle.std.proofs.Common.{◌≡◌, ◌<◌, ◌≤◌, ◌^◌}
use Rattle.timeline.specs.Line.{KeepsRun, start_of}
use Rattle.timeline.specs.Present.{BeginsAt, IsSound, step_of}
use Rattle.timeline.proofs.line.Line.go_back.Given as goal

abbrev pub invariant-loop-distance : goal.invariant-loop-distance
invariant-loop-distance l =
    record {
      keeps : KeepsRun l.fn.self l.self;
      sound : IsSound l.present;
      begins : BeginsAt (start_of l.self) l.present;
      few : l.step ≤ 2 ^ 63;
      same : l.self.present ≡ l.fn.self.present;
      before : l.step < step_of l.fn.self.present;
      within : step_of l.present ≤ l.step;
    }
