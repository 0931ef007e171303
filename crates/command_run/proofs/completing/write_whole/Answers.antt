use Rattle.command_run.proofs.Making.{given_all}
use Rattle.command_run.proofs.completing.write_whole.Goals as goal

pub returns-in-Ok-clause-whole : goal.returns-in-Ok-clause-whole
returns-in-Ok-clause-whole g c = λ empty tells. given_all _ _ _ (empty tells) c.in-Ok.ensures.bytes
