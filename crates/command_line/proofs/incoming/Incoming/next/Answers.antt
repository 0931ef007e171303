use Rattle.std.proofs.Common.{◌≡◌, ℕ, Option, Some, IsSome, rules, subst, sym}
use Rattle.command_line.specs.Incoming.{byte_at_hand}
use Rattle.command_line.proofs.incoming.Incoming.next.Goals as goal

-- the byte was at hand in the last iteration
pub returns-in-Some-at_hand-clause-taken : goal.returns-in-Some-at_hand-clause-taken
returns-in-Some-at_hand-clause-taken g c =
    let here : byte_at_hand c.loop.self ≡ Some c.in-Some-at_hand.byte = sym c.in-Some-at_hand.ensures in
    record {
      before = c.loop.self;
      next = here;
      passed = c.skip.ensures (subst (λ (byte : Option ℕ). IsSome byte) (sym here) (search rules));
      whole = c.loop.invariant.whole;
    }
