use Rattle.token.specs.RunInTurn.{point_of}
use Rattle.token.specs.Serial.{IsLonger}
use Rattle.runtime.proofs.Sent.{unsent}
use Rattle.runtime.proofs.turns.send_turn.Goals as goal

pub returns-in-Err-clause-goes : goal.returns-in-Err-clause-goes
returns-in-Err-clause-goes g c =
    let longer : IsLonger (point_of c.args.serial.now) (point_of c.take_turn.new.serial) = rw c.in-Turned.is at c.in_ok-take_turn.ensures.moved in
    unsent g.K.Recorder.writes g.S.Sink.taken g.S.Sink.failed c.args.serial.now c.take_turn.new.serial c.args.sink.now c.send.new.sink c.fresh.result.now longer c.fresh.ensures
    c.in-Err.ensures.prefix c.in-Err.ensures.failed
