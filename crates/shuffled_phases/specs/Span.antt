use Rattle.std.specs.Prelude.{ℕ, Bool, ◌&&◌, nat_le}
use Rattle.abi.specs.Limits as limit

-- whether a number of instructions is from 1 to the greatest bound
abbrev pub is_span : ℕ → Bool
is_span instructions = nat_le 1 instructions && nat_le instructions limit.instructions
