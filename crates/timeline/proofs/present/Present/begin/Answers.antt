use Rattle.std.proofs.Common.{◌≡◌}
use Rattle.token.specs.Point.{need_at}
use Rattle.token.specs.declared.need.Need.TheVariants as need
use Rattle.timeline.specs.Present.{point_at}
use Rattle.timeline.proofs.Positions.{some_quantum}
use Rattle.timeline.proofs.present.Present.begin.Goals as goal

pub begin-requires : goal.begin-requires
begin-requires c =
    let point = point_at c.args.self.now in
    let asked : need_at point ≡ need.Segment c.in-Segment.work = cc in
    (some_quantum point c.in-Segment.work c.requires.quantum).0 asked

pub begin-requires-in-Keeper : goal.begin-requires-in-Keeper
begin-requires-in-Keeper c =
    let point = point_at c.args.self.now in
    let asked : need_at point ≡ need.Keeper c.in-Keeper.work = cc in
    (some_quantum point c.in-Keeper.work c.requires.quantum).1 asked
