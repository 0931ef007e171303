use Rattle.std.proofs.Common.{[], sym, subst}
use Rattle.races.specs.Freed.{AreFreed}
use Rattle.races.proofs.Freeing.{dead_none, freed_none}
use Rattle.races.proofs.FreedListed.{listed_none}
use Rattle.races.proofs.freed_lives.FreedLives.new.Goals as goal

pub returns : goal.returns
returns c = record {
  dead = λ byte block. (λ dead. absurd (dead_none byte block dead), λ held. absurd (c.new.ensures byte block held));
  told = subst (AreFreed []) (sym c.new-2.ensures) freed_none;
  listed = listed_none c.new-2.result.told.items c.new-2.result.words c.new-2.ensures;
  live = λ word place block there. absurd (c.new-3.ensures word there);
}
