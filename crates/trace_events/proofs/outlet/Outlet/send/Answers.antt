use Rattle.std.proofs.Common.{◌≤◌, length, refl, rules}
use Rattle.std.specs.String.{string_bytes}
use Rattle.std.proofs.lemmas.List.{take_rest}
use Rattle.trace_events.proofs.Sending.{Sends-all, Sends-sent}
use Rattle.trace_events.proofs.outlet.Outlet.send.Goals as goal

pub pieces-preserved : goal.pieces-preserved
pieces-preserved g c text has =
    let grew = rw (take_rest, c.as_bytes.ensures.value) at c.in-Ok.ensures.bytes in
    Sends-sent g.W.Write.contents c.pieces.self _ c.in-Ok.count text grew refl refl (c.pieces.invariant text has)

pub returns-clause-all : goal.returns-clause-all
returns-clause-all g c text has =
    let over : length (string_bytes c.pieces.self.text) ≤ c.pieces.self.sent = search rules in
    Sends-all g.W.Write.contents c.pieces.self text over (c.pieces.invariant text has)
