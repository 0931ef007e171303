use Rattle.std.proofs.Common.{◌≡◌, ◌++◌, take}
use Rattle.std.specs.List.{flat_map}
use Rattle.std.specs.String.{string_bytes}
use Rattle.text_output.specs.Digits.{hexadecimal}
use Rattle.explored_text.proofs.hashes.push_digits.Given as goal

abbrev pub invariant-loop-byte : goal.invariant-loop-byte
invariant-loop-byte l = string_bytes l.text ≡ string_bytes l.initial.text ++ flat_map (λ byte. hexadecimal 2 byte) (take l.byte-index (take 8 l.hash))
