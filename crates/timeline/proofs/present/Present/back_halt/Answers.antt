use Rattle.std.proofs.Common.{None, refl}
use Rattle.timeline.specs.Halts.{wanted_by}
use Rattle.timeline.specs.Present.{point_at, steps_of}
use Rattle.timeline.proofs.Passing.{silent_call, silent_turn}
use Rattle.timeline.proofs.present.Present.back_halt.Goals as goal

pub returns-in_default : goal.returns-in_default
returns-in_default c =
    let self = c.args.self.now in
    let wanted = wanted_by c.args.stops.now in
    let turns = rw c.in_default.is at c.requires.ready.sound.turns in
    let begun = rw c.in_default.is at c.requires.ready.begun in
    let quiet = silent_turn wanted (point_at self) None (steps_of self.underway) turns begun refl in
    let call = silent_call wanted (point_at self) None (steps_of self.underway) begun refl in
    (rw (quiet.1, call) refl, quiet.0)
