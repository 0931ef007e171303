use Rattle.std.proofs.Common.{ℕ, ◌-◌, List, length}
use Rattle.std.specs.String.{string_bytes}
use Rattle.trace_events.specs.Recording.{Sends}
use Rattle.trace_events.proofs.outlet.Outlet.send.Given as goal

abbrev pub invariant-pieces : goal.invariant-pieces
invariant-pieces g l = (text : List ℕ) → Sends g.W.Write.contents l.initial.self text → Sends g.W.Write.contents l.self text

abbrev pub decreases-pieces : goal.decreases-pieces
decreases-pieces g l = length (string_bytes l.self.text) - l.self.sent
