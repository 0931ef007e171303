use Rattle.std.proofs.Common.{[], rules}
use Rattle.token.specs.RunInTurn.{point_of}
use Rattle.token.specs.Serial.{Invariants, StandsAfter}
use Rattle.timeline.proofs.Lasting.{first_last}
use Rattle.timeline.proofs.timeline.Timeline.open.Goals as goal

pub open-requires-clause-last : goal.open-requires-clause-last
open-requires-clause-last c =
    let stands : StandsAfter (point_of c.args.start) [] = search rules in
    let holds : Invariants (point_of c.args.start) = search rules in
    rw c.recorded_by.ensures (first_last (point_of c.args.start) stands holds)
