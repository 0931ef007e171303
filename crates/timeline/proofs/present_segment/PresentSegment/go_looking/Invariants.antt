use Rattle.std.proofs.Common.{◌-◌, ◌≡◌, ◌<◌, ◌≤◌, None, ◌⊎◌}
use Rattle.timeline.specs.Halts.{wanted_by}
use Rattle.timeline.specs.Quiet.{IsQuiet}
use Rattle.timeline.specs.Underway.{IsUnderway, origin_of}
use Rattle.timeline.proofs.present_segment.PresentSegment.go_looking.Given as goal

abbrev pub invariant-loop-self : goal.invariant-loop-self
invariant-loop-self l =
    record {
      underway : IsUnderway l.self;
      same : origin_of l.self ≡ origin_of l.fn.self;
      since : l.fn.self.done ≤ l.self.done;
      within : l.self.done ≤ l.until;
      further : (l.self.trap ≡ None) ⊎ (l.fn.self.done < l.self.done);
      quiet : IsQuiet (wanted_by l.stops) (origin_of l.fn.self) l.fn.self.done l.self.done;
    }

abbrev pub decreases-loop-self : goal.decreases-loop-self
decreases-loop-self l = l.until - l.self.done
