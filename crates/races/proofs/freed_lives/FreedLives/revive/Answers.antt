use Rattle.std.proofs.Common.{refl}
use Rattle.std.proofs.lemmas.Result.{on_ok_weaker}
use Rattle.races.proofs.FreedTold.{adds_revived}
use Rattle.races.proofs.freed_lives.FreedLives.revive.Goals as goal

pub returns : goal.returns
returns c = on_ok_weaker c.revive.result (λ cuts. adds_revived c.args.self.now (record c.args.self.now { parts = c.revive.new.self }) c.args.address c.args.length cuts refl refl) c.revive.ensures
