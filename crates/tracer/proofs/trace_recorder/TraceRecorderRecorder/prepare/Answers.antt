use Rattle.tracer.proofs.Writing.{Traces-kept}
use Rattle.tracer.proofs.trace_recorder.TraceRecorderRecorder.prepare.Goals as goal

pub returns-in_err-make_line-clause-kept : goal.returns-in_err-make_line-clause-kept
returns-in_err-make_line-clause-kept g c turns changes has =
    Traces-kept g.W.Write.contents c.args.self.now c.make_line.new.self turns c.make_line.ensures.kept has

pub returns-in_err-send-clause-kept : goal.returns-in_err-send-clause-kept
returns-in_err-send-clause-kept g c turns changes has =
    Traces-kept g.W.Write.contents c.make_line.new.self c.send.new.self turns c.send.ensures.kept
    (Traces-kept g.W.Write.contents c.args.self.now c.make_line.new.self turns c.make_line.ensures.kept has)

pub returns-in_ok-send-clause-kept : goal.returns-in_ok-send-clause-kept
returns-in_ok-send-clause-kept g c turns changes has =
    Traces-kept g.W.Write.contents c.make_line.new.self c.send.new.self turns c.send.ensures.kept
    (Traces-kept g.W.Write.contents c.args.self.now c.make_line.new.self turns c.make_line.ensures.kept has)

pub returns-else-len-ge-FULL-clause-kept : goal.returns-else-len-ge-FULL-clause-kept
returns-else-len-ge-FULL-clause-kept g c turns changes has =
    Traces-kept g.W.Write.contents c.args.self.now c.make_line.new.self turns c.make_line.ensures.kept has
