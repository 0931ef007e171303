use Rattle.std.proofs.Common.{◌≡◌}
use Rattle.token.specs.Point.{need_at}
use Rattle.token.specs.declared.need.Need.TheVariants as need
use Rattle.timeline.specs.Present.{point_at}
use Rattle.timeline.proofs.Telling.{begun_goes_on, ended_as, going_is, trapped_is}
use Rattle.timeline.proofs.present.Present.stage.Goals as goal

pub returns-in-Some-trap-clause-stage : goal.returns-in-Some-trap-clause-stage
returns-in-Some-trap-clause-stage c =
    trapped_is (point_at c.args.self.now) c.args.self.now.underway c.in-Some.underway c.in-Some-trap.trap c.pc.result c.in-Some.is c.requires.turns c.in-Some-trap.is c.pc.ensures.pc

pub returns-in-Some-trap-clause-ended : goal.returns-in-Some-trap-clause-ended
returns-in-Some-trap-clause-ended c = begun_goes_on (point_at c.args.self.now) c.args.self.now.underway c.in-Some.underway c.in-Some.is c.requires.turns

pub returns-in-None-clause-stage : goal.returns-in-None-clause-stage
returns-in-None-clause-stage c = going_is (point_at c.args.self.now) c.args.self.now.underway c.in-Some.underway c.in-Some.is c.requires.turns c.in-None.is

pub returns-in-None-clause-ended : goal.returns-in-None-clause-ended
returns-in-None-clause-ended c = begun_goes_on (point_at c.args.self.now) c.args.self.now.underway c.in-Some.underway c.in-Some.is c.requires.turns

pub returns-in-Segment-clause-ended : goal.returns-in-Segment-clause-ended
returns-in-Segment-clause-ended c =
    let asked : need.Segment c.in-Segment.field-0 ≡ need_at (point_at c.args.self.now) = cc in
    ended_as (point_at c.args.self.now) (need.Segment c.in-Segment.field-0) asked

pub returns-in-Keeper-clause-ended : goal.returns-in-Keeper-clause-ended
returns-in-Keeper-clause-ended c =
    let asked : need.Keeper c.in-Keeper.field-0 ≡ need_at (point_at c.args.self.now) = cc in
    ended_as (point_at c.args.self.now) (need.Keeper c.in-Keeper.field-0) asked

pub returns-in-Wake-clause-ended : goal.returns-in-Wake-clause-ended
returns-in-Wake-clause-ended c =
    let asked : need.Wake c.in-Wake.thread ≡ need_at (point_at c.args.self.now) = cc in
    ended_as (point_at c.args.self.now) (need.Wake c.in-Wake.thread) asked

pub returns-in-Ended-clause-ended : goal.returns-in-Ended-clause-ended
returns-in-Ended-clause-ended c =
    let asked : need.Ended c.in-Ended.outcome ≡ need_at (point_at c.args.self.now) = cc in
    ended_as (point_at c.args.self.now) (need.Ended c.in-Ended.outcome) asked
