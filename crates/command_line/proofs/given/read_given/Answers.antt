use Rattle.std.proofs.Common.{arith, inr, refl}
use Rattle.command_line.proofs.given.read_given.Goals as goal

-- the bytes that were read are more than the limit
pub returns-then-len-gt-MAX_INPUT-clause-failed : goal.returns-then-len-gt-MAX_INPUT-clause-failed
returns-then-len-gt-MAX_INPUT-clause-failed g c =
    inr (refl, (c.in-Ok-read_upto.input.items, c.in-Ok-read_upto.ensures.bytes, omega (arith, c.in-Ok-read_upto.input.ok.0)))
