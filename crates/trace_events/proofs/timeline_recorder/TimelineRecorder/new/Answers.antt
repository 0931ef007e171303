use Rattle.std.proofs.Common.{[], refl}
use Rattle.trace_events.specs.Timeline.{begun_text, entries_of}
use Rattle.trace_events.specs.Times.{timed}
use Rattle.trace_events.proofs.timeline_recorder.TimelineRecorder.new.Goals as goal

pub returns : goal.returns
unfolding begun_text entries_of timed
returns g c same = record { done = []; knows = c.new-2.ensures; sends = c.new.ensures; all = refl; paired = refl }
