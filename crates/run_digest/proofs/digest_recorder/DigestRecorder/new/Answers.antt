use Rattle.std.proofs.Common.{[], refl}
use Rattle.tracer.specs.TraceText.{text_of}
use Rattle.run_digest.proofs.digest_recorder.DigestRecorder.new.Goals as goal

pub returns : goal.returns
unfolding text_of
returns c = record { told = []; holds = c.new.ensures; text = refl }
