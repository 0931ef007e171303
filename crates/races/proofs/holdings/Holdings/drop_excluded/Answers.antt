use Rattle.std.proofs.Common.{not, rules}
use Rattle.std.proofs.lemmas.Fn.{filter_same}
use Rattle.races.specs.Holding.{excludes}
use Rattle.races.proofs.holdings.Holdings.drop_excluded.Goals as goal

pub returns : goal.returns
returns c =
    filter_same _ (λ one. not (excludes c.args.lock one.lock)) _ (λ one test later called. search rules) c.args.self.now.held.items c.retain.new.self.items
    c.retain.ensures.filtered
