use Rattle.std.proofs.Common.{◌∙◌, sym, drop}
use Rattle.std.specs.String.{string_bytes}
use Rattle.tracer.specs.TraceText.{line_of, text_of}
use Rattle.tracer.proofs.Writing.{line_added, text_of_more}
use Rattle.tracer.proofs.trace_recorder.TraceRecorderRecorder.record.Goals as goal

pub returns : goal.returns
returns g c addresses turns changes ready has =
    let recorder = c.args.self.now in record {
      written = has.written;
      holds = has.holds;
      text =
          line_added has.written (drop recorder.sent (string_bytes recorder.lines)) (line_of c.args.turn) (text_of turns) recorder.last ready has.text
          ∙ sym (text_of_more turns c.args.turn);
    }
