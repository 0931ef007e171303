use Rattle.std.proofs.Common.{◌≡◌, ◌++◌, map, take}
use Rattle.sharing_report.specs.ByteChanges.{byte_change}
use Rattle.sharing_report.proofs.byte_change.push_turn.Given as goal

abbrev pub invariant-loop-changed : goal.invariant-loop-changed
invariant-loop-changed l =
    l.bytes.items ≡ l.initial.bytes.items ++ map (byte_change l.turn l.change) (take l.changed-index l.change.addresses)
