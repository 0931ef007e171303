use Rattle.std.proofs.Common.{[], ◌∙◌}
use Rattle.std.proofs.lemmas.List.{append-nil}
use Rattle.tracer.specs.TraceText.{text_of}
use Rattle.tracer.proofs.trace_recorder.TraceRecorder.new.Goals as goal

pub returns : goal.returns
unfolding text_of
returns g c = record { written = []; holds = c.requires; text = append-nil _ ∙ c.new.ensures.bytes }
