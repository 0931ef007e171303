use Rattle.runtime.specs.Turns.{sunk}
use Rattle.runtime.proofs.Concluded.{as_sunk, of_sunk}
use Rattle.runtime.proofs.recording.record_serial.Goals as goal

pub returns : goal.returns
returns g c =
    let before = sunk g.S.Sink.taken g.S.Sink.failed c.args.sink.now in
    let after = sunk g.S.Sink.taken g.S.Sink.failed c.take_turns-ended.new.sink in
    of_sunk _ _ g.S.Sink.taken g.S.Sink.failed _ _ c.args.sink.now c.take_turns-ended.new.sink
    (c.conclude.ensures.comes c.args.serial before after c.requires.output (as_sunk _ g.S.Sink.taken g.S.Sink.failed _ _ _ _ c.args.sink.now c.take_turns-ended.new.sink c.take_turns-ended.ensures))
