use Rattle.std.proofs.Common.{◌≡◌, take}
use Rattle.std.specs.List.{enumerate_from, flat_map}
use Rattle.sharing_report.specs.ByteChanges.{bytes_of_turn}
use Rattle.sharing_report.proofs.byte_change.byte_changes.Given as goal

abbrev pub invariant-loop-turn : goal.invariant-loop-turn
invariant-loop-turn l = l.bytes.items ≡ flat_map (λ (turn, change). bytes_of_turn turn change) (take l.turn (enumerate_from 0 l.changes))
