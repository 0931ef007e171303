use Rattle.shuffled_phases.specs.Lists.{shuffled}
use Rattle.shuffled_phases.proofs.Lists.{IsPartOf-shuffled}
use Rattle.shuffled_phases.proofs.part.shuffled.Goals as goal

pub returns-clause-part : goal.returns-clause-part
unfolding shuffled
returns-clause-part c =
    rw (c.taking_part.ensures, c.part_of.ensures, c.ordered-list.ensures, c.block_of.ensures) (IsPartOf-shuffled c.args.number c.args.phase c.args.threads.now)
