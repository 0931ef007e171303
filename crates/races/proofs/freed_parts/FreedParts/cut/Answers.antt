use Rattle.races.proofs.Parted.{cut}
use Rattle.races.proofs.freed_parts.FreedParts.cut.Goals as goal

pub returns : goal.returns
returns c =
    cut c.args.self.now.parts c.split.new.self.parts c.split-2.new.self.parts c.remove_within.new.self.parts c.args.start c.args.end c.in_ok-split.ensures.held c.in_ok-split.ensures.edge
    c.in_ok-split-2.ensures.held c.in_ok-split-2.ensures.edges c.in_ok-split-2.ensures.edge c.remove_within.ensures
