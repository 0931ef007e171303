use Rattle.timeline.specs.Present.{point_at}
use Rattle.timeline.proofs.Telling.{trap_outcome}
use Rattle.timeline.proofs.present.Present.outcome.Goals as goal

pub returns-in-Trap : goal.returns-in-Trap
returns-in-Trap c =
    trap_outcome (point_at c.args.self.now) c.args.self.now.underway c.thread.result c.args.self.now.last c.in-Trap.pc c.in-Trap.trap c.requires.turns c.in-Trap.ensures.stage
    c.thread.ensures.thread
