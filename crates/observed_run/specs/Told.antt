-- What a recorder of findings is told.
use Rattle.std.specs.Prelude.{List, ◌++◌}
use Rattle.races.specs.Findings.{FindingRecords}
use Rattle.races.specs.declared.observed_event.ObservedEvent.{ObservedEvent}
use Rattle.races.specs.declared.finding_recorder.FindingRecorder.{FindingRecorder}

-- a recorder was told some more events
abbrev pub IsTold : (old new : FindingRecorder) → List ObservedEvent → Type 0
IsTold old new events = (history : List ObservedEvent) → FindingRecords old history → FindingRecords new (history ++ events)
