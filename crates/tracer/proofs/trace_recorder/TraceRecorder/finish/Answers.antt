use Rattle.std.proofs.Common.{Some, ap, ◌∙◌}
use Rattle.tracer.specs.Recording.{unwritten}
use Rattle.tracer.specs.TraceText.{text_of}
use Rattle.tracer.proofs.Writing.{Holds-kept, Traces-kept, all_taken}
use Rattle.tracer.proofs.trace_recorder.TraceRecorder.finish.Goals as goal

pub returns-in_err-make_line-clause-kept : goal.returns-in_err-make_line-clause-kept
returns-in_err-make_line-clause-kept g c turns has =
    Traces-kept g.W.Write.contents c.args.self.now c.make_line.new.self turns c.make_line.ensures.kept has

pub returns-in_err-send-clause-kept : goal.returns-in_err-send-clause-kept
returns-in_err-send-clause-kept g c turns has =
    Traces-kept g.W.Write.contents c.make_line.new.self c.send.new.self turns c.send.ensures.kept
    (Traces-kept g.W.Write.contents c.args.self.now c.make_line.new.self turns c.make_line.ensures.kept has)

pub returns-in-Ok-clause-kept : goal.returns-in-Ok-clause-kept
returns-in-Ok-clause-kept g c turns has =
    let sent = Traces-kept g.W.Write.contents c.make_line.new.self c.send.new.self turns c.send.ensures.kept
    (Traces-kept g.W.Write.contents c.args.self.now c.make_line.new.self turns c.make_line.ensures.kept has) in
    record { written = sent.written; holds = Holds-kept g.W.Write.contents c.send.new.self.writer c.flush.new.self sent.written c.in-Ok.ensures.bytes sent.holds; text = sent.text }

pub returns-in-Ok-clause-whole : goal.returns-in-Ok-clause-whole
returns-in-Ok-clause-whole g c turns has tells =
    let sent = Traces-kept g.W.Write.contents c.make_line.new.self c.send.new.self turns c.send.ensures.kept
    (Traces-kept g.W.Write.contents c.args.self.now c.make_line.new.self turns c.make_line.ensures.kept has) in
    Holds-kept g.W.Write.contents c.send.new.self.writer c.flush.new.self sent.written c.in-Ok.ensures.bytes sent.holds tells
    ∙ ap Some (all_taken sent.written (unwritten c.send.new.self) (text_of turns) c.send.new.self.last c.in_ok-send.ensures.sent (c.in_ok-send.ensures.last ∙ c.in_ok-make_line.ensures.made) sent.text)

pub returns-in-Err-clause-kept : goal.returns-in-Err-clause-kept
returns-in-Err-clause-kept g c turns has =
    let sent = Traces-kept g.W.Write.contents c.make_line.new.self c.send.new.self turns c.send.ensures.kept
    (Traces-kept g.W.Write.contents c.args.self.now c.make_line.new.self turns c.make_line.ensures.kept has) in
    record { written = sent.written; holds = Holds-kept g.W.Write.contents c.send.new.self.writer c.flush.new.self sent.written c.in-Err.ensures.bytes sent.holds; text = sent.text }
