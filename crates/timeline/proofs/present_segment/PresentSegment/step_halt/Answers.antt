use Rattle.std.proofs.Common.{arith}
use Rattle.twins.specs.View as views
use Rattle.timeline.specs.Halts as halts
use Rattle.timeline.proofs.Places.{nothing_watched}
use Rattle.timeline.proofs.present_segment.PresentSegment.step_halt.Goals as goal

pub returns-in-empty : goal.returns-in-empty
returns-in-empty c =
    let underway = c.args.self.now in
    nothing_watched c.args.stops.now.watches.now (halts.next_access underway.hart (views.cells_of underway.view)) (omega (arith, c.in-empty.len_below))
