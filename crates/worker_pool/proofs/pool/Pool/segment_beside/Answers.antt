use Rattle.token.specs.RunInTurn.{point_of}
use Rattle.worker_pool.proofs.Ends.{needed}
use Rattle.worker_pool.proofs.pool.Pool.segment_beside.Goals as goal

pub returns-in-Some-clause-end : goal.returns-in-Some-clause-end
returns-in-Some-clause-end g c =
    needed g.B.OfRun.setup (point_of c.args.serial.now) c.requires.run.asked.0 c.phase.result c.args.work.now c.in-Some.end c.requires.run.asked.1 c.requires.run.setup c.phase.ensures c.requires.need
    c.in-Some.ensures.end
