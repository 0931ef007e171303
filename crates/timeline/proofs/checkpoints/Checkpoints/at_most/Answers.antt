use Rattle.std.proofs.Common.{◌∙◌, ap}
use Rattle.timeline.specs.Checkpoint.{KeepsTurn}
use Rattle.timeline.specs.Checkpoints.{start_of}
use Rattle.timeline.specs.Moment.{moment_at}
use Rattle.timeline.proofs.Positions.{at_start}
use Rattle.timeline.proofs.checkpoints.Checkpoints.at_most.Goals as goal

pub returns-clause-turn : goal.returns-clause-turn
returns-clause-turn c =
    let start = start_of c.args.self.now in
    let first : KeepsTurn start c.args.self.now.first = ap (moment_at start) c.requires.first.before ∙ at_start start in
    let kept = rw (← c.deref.ensures.value) at c.requires.kept_turns in
    let near = rw (← c.deref-2.ensures.value) at c.requires.near_turns in
    c.later_of.ensures.turn start (c.later_of-best.ensures.turn start first kept) near
