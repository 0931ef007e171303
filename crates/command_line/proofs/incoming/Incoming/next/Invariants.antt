use Rattle.std.proofs.Common.{◌≡◌, IsSome}
use Rattle.command_line.specs.Incoming.{byte_at_hand}
use Rattle.command_line.proofs.incoming.Incoming.next.Given as goal

abbrev pub invariant-loop : goal.invariant-loop
invariant-loop g l = record {
  whole : l.self.lost ≡ l.fn.self.lost;
  kept : IsSome (byte_at_hand l.fn.self) → l.self ≡ l.fn.self;
}
