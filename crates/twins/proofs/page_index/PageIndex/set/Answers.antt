use Rattle.twins.proofs.Indexed.{place_with-pushed, place_with-other}
use Rattle.twins.proofs.page_index.PageIndex.set.Goals as goal

pub returns-in_default-clause-set : goal.returns-in_default-clause-set
returns-in_default-clause-set c numbers size absent =
    place_with-pushed c.args.self.now.table c.in_default.is numbers c.args.number c.args.place size absent

pub returns-in_default-clause-others : goal.returns-in_default-clause-others
returns-in_default-clause-others c numbers other apart = place_with-other c.args.self.now.table c.in_default.is numbers c.args.number other apart
