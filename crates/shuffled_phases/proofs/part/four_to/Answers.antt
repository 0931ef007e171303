use Rattle.std.proofs.Common.{arith}
use Rattle.shuffled_phases.proofs.Kept.{four_to_few}
use Rattle.shuffled_phases.proofs.part.four_to.Goals as goal

pub pow-requires : goal.pow-requires
pow-requires c = (four_to_few c.args.exponent (omega arith)).1

pub returns-clause-some : goal.returns-clause-some
returns-clause-some c = let some = (four_to_few c.args.exponent (omega arith)).0 in omega (arith, c.pow.ensures)
