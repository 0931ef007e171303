use Rattle.std.proofs.Common.{◌≡◌, ◌-◌, length}
use Rattle.std.specs.String.{string_bytes}
use Rattle.tracer.specs.Recording.{KeepsText}
use Rattle.tracer.proofs.trace_recorder.TraceRecorder.send.Given as goal

abbrev pub invariant-pieces : goal.invariant-pieces
invariant-pieces g l = KeepsText g.W.Write.contents l.initial.self l.self × (l.self.last ≡ l.initial.self.last)

abbrev pub decreases-pieces : goal.decreases-pieces
decreases-pieces g l = length (string_bytes l.self.lines) - l.self.sent
