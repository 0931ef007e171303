use Rattle.races.proofs.Mapped.{words_renewed}
use Rattle.races.proofs.words.Words.renew.Goals as goal

pub returns : goal.returns
returns c steps knows =
    words_renewed steps c.args.fresh.address c.args.fresh.length c.args.self.now.pages.pages.items c.renew.new.self.pages.items c.args.self.now.races.words c.renew.ensures knows
