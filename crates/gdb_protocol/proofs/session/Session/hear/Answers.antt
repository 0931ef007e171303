use Rattle.std.proofs.Common.{◌∙◌, ap, subst}
use Rattle.gdb_packets.specs.Escapes as escapes
use Rattle.gdb_protocol.specs.Hearing.{Handles}
use Rattle.gdb_protocol.proofs.Packets.{handled, on_ok}
use Rattle.gdb_protocol.proofs.session.Session.hear.Goals as goal

pub returns-in_ok-text-in-Packet-clause-packet : goal.returns-in_ok-text-in-Packet-clause-packet
returns-in_ok-text-in-Packet-clause-packet c =
    λ completes alive.
    let text = c.as_slice.ensures.value ∙ c.in_ok-text-in-Packet.ensures ∙ ap escapes.unescaped (c.body.ensures ∙ (c.hear.ensures.completes completes).1) in
    on_ok c.handle.result
    (λ replies.
    subst (Handles c.args.self.now c.handle.new.self) text
    (handled c.args.self.now c.acknowledge-in-Packet.new.self c.hear.new.self c.handle.new.self c.as_slice.result.now c.parse.result
    c.in_ok-acknowledge-in-Packet.ensures c.parse.ensures.read replies))
    (c.handle.ensures alive)
