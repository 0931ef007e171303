use Rattle.std.proofs.Common.{◌≡◌, ◌-◌, ◌^◌, ◌<◌, take}
use Rattle.std.specs.Prelude.{All, min}
use Rattle.std.specs.Char.{digit_value}
use Rattle.gdb_packets.specs.Numbers.{value_of}
use Rattle.gdb_packets.proofs.numbers.number.Given as goal

abbrev pub invariant-loop-byte : goal.invariant-loop-byte
invariant-loop-byte l = record {
  all : All (λ digit. digit_value digit < 16) (take l.byte-index l.digits);
  value : l.value ≡ min (value_of (take l.byte-index l.digits)) (2 ^ 64 - 1);
}
