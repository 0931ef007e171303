use Rattle.std.proofs.Common.{◌≡◌, ◌-◌, ◌*◌, ◌/◌, ◌^◌, ◌++◌}
use Rattle.std.specs.String.{string_bytes}
use Rattle.text_output.specs.Digits.{hexadecimal}
use Rattle.text_output.proofs.digits.write_hexadecimal.Given as goal

abbrev pub invariant-loop-place : goal.invariant-loop-place
invariant-loop-place l =
    string_bytes l.text ≡ string_bytes l.initial.text ++ hexadecimal (l.count - l.place) (l.number / 2 ^ (4 * l.place))
