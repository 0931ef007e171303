use Rattle.std.proofs.Common.{[], ◌∙◌, sym}
use Rattle.tracer.specs.TraceText.{line_of, text_of}
use Rattle.tracer.proofs.Writing.{line_added, text_of_more}
use Rattle.run_digest.proofs.digest_recorder.DigestRecorderRecorder.record.Goals as goal

pub returns : goal.returns
returns c addresses turns changes ready has =
    let recorder = c.args.self.now in record {
      told = has.told;
      holds = has.holds;
      text = line_added has.told [] (line_of c.args.turn) (text_of turns) recorder.last ready has.text ∙ sym (text_of_more turns c.args.turn);
    }
