use Rattle.std.proofs.Common.{◌+◌}
use Rattle.twins.proofs.Places.{place_in-set, place_in-kept}
use Rattle.twins.proofs.place_table.PlaceTable.set.Goals as goal

pub returns-clause-set : goal.returns-clause-set
returns-clause-set c =
    rw c.from-leaf.ensures (place_in-set c.args.self.now.groups c.args.self.now.leaves.items c.args.self.now.shape c.args.number c.requires.room (c.args.place + 1))

pub returns-clause-others : goal.returns-clause-others
returns-clause-others c =
    rw c.from-leaf.ensures (place_in-kept c.args.self.now.groups c.args.self.now.leaves.items c.args.self.now.shape c.args.number c.requires.room (c.args.place + 1))
