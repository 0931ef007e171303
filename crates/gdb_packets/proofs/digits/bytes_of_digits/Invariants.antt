use Rattle.std.proofs.Common.{◌≡◌, ◌++◌, length, List, ℕ}
use Rattle.std.specs.Prelude.{option_map}
use Rattle.gdb_packets.specs.Digits.{bytes_in}
use Rattle.gdb_packets.proofs.digits.bytes_of_digits.Given as goal

abbrev pub invariant-loop-rest : goal.invariant-loop-rest
invariant-loop-rest l = option_map (λ (later : List ℕ). l.bytes.items ++ later) (bytes_in l.rest) ≡ bytes_in l.digits

abbrev pub decreases-loop-rest : goal.decreases-loop-rest
decreases-loop-rest l = length l.rest
