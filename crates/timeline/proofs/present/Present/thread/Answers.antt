use Rattle.timeline.specs.Present.{point_at}
use Rattle.timeline.proofs.Telling.{thread_is}
use Rattle.timeline.proofs.present.Present.thread.Goals as goal

pub returns-in-Some-clause-thread : goal.returns-in-Some-clause-thread
returns-in-Some-clause-thread c = thread_is (point_at c.args.self.now) c.in-Some.underway c.args.self.now.last (rw c.in-Some.is at c.requires.turns)
